pub mod Trb
pub mod Events
pub mod Links
pub mod Commands
pub mod Transfers
pub mod Data
