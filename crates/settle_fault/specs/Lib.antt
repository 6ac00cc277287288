pub mod Ready
pub mod Settle
