pub mod Driving
pub mod Late
pub mod Tallies
