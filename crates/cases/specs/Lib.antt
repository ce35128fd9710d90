pub mod Latest
pub mod Opener
pub mod OpenerLaws
