pub mod Counts
pub mod Mask
pub mod Masks
