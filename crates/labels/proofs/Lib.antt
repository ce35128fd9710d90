pub mod Climbs
pub mod DoorsOut
pub mod Folds
pub mod Inward
pub mod Keeps
pub mod Laying
pub mod Legs
pub mod Overs
pub mod Places
pub mod RedirectNet
pub mod Redirects
pub mod Rests
pub mod Rooms
mod Scattered
pub mod Shaped_arranged
pub mod Steps
pub mod Writing
