pub mod Claims
pub mod Sheets
pub mod Texts
