pub mod Lent
pub mod Events
