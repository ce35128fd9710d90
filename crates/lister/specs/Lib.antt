pub mod Listed
pub mod Orders
