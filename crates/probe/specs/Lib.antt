pub mod Trial
pub mod Ready
