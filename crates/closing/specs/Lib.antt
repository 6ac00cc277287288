pub mod Close
pub mod Wrote
