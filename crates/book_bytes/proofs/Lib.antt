pub mod BookBytesLaws
pub mod GoodPartsLaws
mod WritingLaws
