pub mod MaskTestLaws
pub mod TurnLaws
