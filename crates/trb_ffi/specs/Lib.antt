pub mod Commands
pub mod Transfers
pub mod Numbers
pub mod Parts
