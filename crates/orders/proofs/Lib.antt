mod Parts
pub mod Times
mod Verdicts
