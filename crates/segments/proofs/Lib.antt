pub mod FellLaws
pub mod UsedUpLaws
