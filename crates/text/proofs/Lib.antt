pub mod Numbers
pub mod Texts
pub mod Forms
pub mod Backs
pub mod Lawful
mod Unmet
mod Stops
