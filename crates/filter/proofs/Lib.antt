mod CountNet
mod Doors
pub mod FilterWords
mod Kept
mod KeptNet
mod Layering
mod Places
mod Relabelled
mod Timely
