pub mod Raw
pub mod Rows
pub mod Pack
pub mod Coded
pub mod Parts
pub mod OneEncoding
pub mod Shown
