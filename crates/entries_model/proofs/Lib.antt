pub mod AlikeLaws
pub mod CanonicalTheorems
pub mod CheckLaws
pub mod IdleTheorems
pub mod ImportTheorems
pub mod ProbeTheorems
pub mod Theorems
pub mod WidthLaws
