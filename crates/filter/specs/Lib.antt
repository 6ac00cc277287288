pub mod Filtered
