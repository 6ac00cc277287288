pub mod UsedUp
pub mod Fell
