pub mod Answers
pub mod Often
pub mod Refusals
pub mod Requests
pub mod Senses
pub mod Sheets
pub mod Words
