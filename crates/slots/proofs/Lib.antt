mod BlockLaws
pub mod FreeLaws
pub mod OthersLaws
