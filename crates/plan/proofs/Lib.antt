pub mod RunsWritten
pub mod Whole
pub mod Grown
pub mod Finish
pub mod Counted
