pub mod Filled
pub mod Filling
pub mod Given
