pub mod Slots
pub mod States
pub mod Usual
pub mod Links
pub mod Back
pub mod Unmoved
pub mod Refused
