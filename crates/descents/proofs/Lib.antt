mod FallLaws
pub mod ToldLaws
