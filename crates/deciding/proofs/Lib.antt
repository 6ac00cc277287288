pub mod CutLaws
mod DecideLaws
mod WorkingLaws
