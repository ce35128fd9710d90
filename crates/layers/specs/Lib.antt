-- In the order to be read in.
pub mod Net
pub mod Settings
pub mod Flow
pub mod Labels
pub mod Records
pub mod Tidy
pub mod Join
pub mod Calls
pub mod Claim
pub mod LabelLaws
pub mod TidyLaws
pub mod SweepLaws
pub mod Refusals
pub mod Lawful
pub mod Shape
pub mod Targets
