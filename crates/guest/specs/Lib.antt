pub mod Refusals
pub mod Judge
pub mod Bytes
pub mod Memory
pub mod Fields
pub mod Answers
pub mod Faults
pub mod Further
