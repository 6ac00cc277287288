pub mod CanonicalMeaning
pub mod Entries
pub mod IdleMeaning
pub mod ImportMeaning
pub mod Meaning
pub mod ProbeMeaning
pub mod Version
