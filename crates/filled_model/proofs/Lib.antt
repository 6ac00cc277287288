pub mod CornersLaws
pub mod FilledLaws
pub mod FillingLaws
pub mod GivenLaws
