pub mod PerformLaws
