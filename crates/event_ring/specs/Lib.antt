pub mod Answers
pub mod Ring
pub mod Consumer
pub mod Faults
pub mod Further
