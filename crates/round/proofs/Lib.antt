pub mod Clocks
pub mod Fresh
