pub mod Laws
pub mod ReadyLaws
pub mod CodeLaws
pub mod AreasLaws
pub mod FoundLaws
pub mod FinishLaws
pub mod KeptLaws
