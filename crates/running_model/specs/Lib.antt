pub mod BookRan
pub mod EngineDemand
pub mod Runs
