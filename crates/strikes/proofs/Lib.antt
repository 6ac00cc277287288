pub mod AnswerLaws
pub mod LeftLaws
