pub mod Memory
pub mod Linked
pub mod Rings
