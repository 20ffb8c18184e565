pub mod Laws
pub mod Optimised
