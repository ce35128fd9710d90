-- In the order to be read in.
pub mod Words
pub mod Tables
pub mod Pictures
