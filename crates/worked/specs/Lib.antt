pub mod Bytes
pub mod Claims
pub mod IdleTable
pub mod PlanTest
pub mod WorkedTable
