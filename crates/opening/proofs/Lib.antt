pub mod OpenedLaws
pub mod PruneLaws
