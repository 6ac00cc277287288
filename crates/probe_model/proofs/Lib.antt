pub mod FaultLaws
pub mod IdleLaws
pub mod ProbeLaws
mod Worked
