mod Checks
pub mod DepthNet
pub mod Divided
mod Joins
pub mod LayerNet
pub mod LayerWords
pub mod InArcs
mod Meets
mod Turns
pub mod CallWords
