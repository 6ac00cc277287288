pub mod EntriesLaws
pub mod KeptLaws
pub mod MemoryLaws
pub mod SearchLaws
