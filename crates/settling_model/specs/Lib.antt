pub mod Book
pub mod Corners
pub mod Cuts
pub mod Plans
pub mod Settled
pub mod Settling
pub mod Stable
