pub mod FilteredLaws
pub mod LargestLaws
pub mod LoopLaws
pub mod StrikeLaws
mod SweepLaws
mod TurnLaws
