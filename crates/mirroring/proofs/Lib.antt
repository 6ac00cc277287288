pub mod BuiltLaws
