pub mod Cuts
pub mod Mirror
pub mod Open
pub mod Rises
pub mod State
pub mod Strike
pub mod Trail
