pub mod Orders
pub mod Sets
