pub mod Elements
pub mod Walk
