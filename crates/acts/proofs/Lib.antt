pub mod CallLaws
pub mod PileLaws
pub mod RepresentsLaws
