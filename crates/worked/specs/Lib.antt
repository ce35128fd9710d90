pub mod Cases
pub mod Rounds
