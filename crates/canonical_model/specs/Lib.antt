pub mod Canonical
pub mod CornerRows
pub mod Order
