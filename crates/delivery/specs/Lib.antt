pub mod Plain
pub mod World
pub mod Demand3
