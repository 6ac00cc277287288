pub mod OpenLaws
mod WorldLaws
