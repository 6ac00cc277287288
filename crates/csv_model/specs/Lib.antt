pub mod Rfc
pub mod Csv
pub mod Ordered
pub mod Import
pub mod Meaning
