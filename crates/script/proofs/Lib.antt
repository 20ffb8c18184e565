pub mod Laws
pub mod Turns
pub mod Codes
pub mod ByKind
pub mod Claim
pub mod Examples
