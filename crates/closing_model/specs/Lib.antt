pub mod Closing
pub mod Corners
pub mod Start
pub mod Sweep
pub mod Table
