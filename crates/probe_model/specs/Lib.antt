pub mod Probe
pub mod Meaning
