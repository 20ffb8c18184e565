pub mod Lines
pub mod Entries
pub mod Runs
pub mod Images
