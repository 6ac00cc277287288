pub mod Lists
pub mod Layout
pub mod Refusal
pub mod GoodFacts
pub mod Idle
