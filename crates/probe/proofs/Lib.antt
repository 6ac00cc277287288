pub mod EntryLaws
pub mod TrialLaws
