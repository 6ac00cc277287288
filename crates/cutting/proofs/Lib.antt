pub mod StruckLaws
