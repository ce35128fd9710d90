pub mod Counts
pub mod InUse
pub mod Lists
mod Marks
mod Numbers
mod Renewed
pub mod Steps
pub mod Targets
pub mod TidyNet
mod Words
