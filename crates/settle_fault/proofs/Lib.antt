pub mod ClosedLaws
pub mod SettleLaws
