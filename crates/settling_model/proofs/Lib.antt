pub mod BookLaws
pub mod CornersLaws
pub mod CrossedRowLaws
mod CutsLaws
pub mod OccursLaws
mod PassesLaws
pub mod PlansLaws
pub mod SettledLaws
pub mod SettlingLaws
pub mod StableLaws
pub mod StaircaseLaws
pub mod TableBoundsLaws
mod Worked
