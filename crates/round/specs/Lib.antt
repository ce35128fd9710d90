pub mod Clock
pub mod Tables
