pub mod AcrossLaws
pub mod ClosingLaws
pub mod EitherLaws
pub mod LineAlone
pub mod LineLaws
pub mod PlaceLaws
pub mod RanLaws
mod RuleLaws
pub mod StartLaws
mod StepLaws
pub mod StoreLaws
pub mod SumLaws
pub mod SweepLaws
pub mod SweptLaws
pub mod TableLaws
pub mod TestLaws
