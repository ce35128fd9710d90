pub mod Answers
pub mod Words
pub mod Reading
pub mod Musts
pub mod Opening
