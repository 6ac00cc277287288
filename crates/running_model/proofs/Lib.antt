pub mod BooksLaws
pub mod RunsLaws
