pub mod CsvLaws
pub mod GrammarLaws
pub mod UniqueLaws
pub mod FigureLaws
pub mod ImportLaws
pub mod MeaningLaws
mod Worked
