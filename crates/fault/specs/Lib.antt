pub mod Behind
pub mod Stops
