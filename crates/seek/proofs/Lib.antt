pub mod Along
pub mod DoorsBehind
pub mod Paths
pub mod Places
pub mod Views
