pub mod CanonicalLaws
pub mod CornerRowsLaws
pub mod OrderLaws
pub mod OutcomeLaws
mod Worked
