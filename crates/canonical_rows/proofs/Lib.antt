mod RowsLaws
mod TurnsLaws
