pub mod Allowed
pub mod Costs
pub mod Times
pub mod Verdicts
