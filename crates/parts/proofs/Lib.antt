pub mod MergeLaws
pub mod MetLaws
pub mod PartLaws
pub mod MeasureLaws
pub mod Laws
