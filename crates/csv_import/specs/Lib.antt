pub mod Part
pub mod Read
pub mod Passes
pub mod Orders
