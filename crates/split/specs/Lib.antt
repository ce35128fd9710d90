pub mod Agreed
pub mod Asked
pub mod Joined
pub mod Listed
pub mod Parted
pub mod Steps
pub mod Words
