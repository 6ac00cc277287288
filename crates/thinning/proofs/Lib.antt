pub mod ThinLaws
pub mod ThinnedLaws
