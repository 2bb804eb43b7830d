pub mod Chase
pub mod Hops
pub mod Further
