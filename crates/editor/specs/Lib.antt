pub mod Entered
pub mod Changeable
