pub mod Lent
pub mod Links
pub mod FromZero
pub mod Further
