pub mod Orders
pub mod Senses
