pub mod Entries
pub mod Memory
pub mod Kept
pub mod Search
