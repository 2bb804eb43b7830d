pub mod Listed
pub mod Written
pub mod Read
pub mod Apart
pub mod Back
