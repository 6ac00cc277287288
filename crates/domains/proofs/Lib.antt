pub mod CountsLaws
pub mod MaskLaws
pub mod MasksLaws
