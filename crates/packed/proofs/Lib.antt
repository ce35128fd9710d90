mod Bytes
mod Lists
mod Long
pub mod OnReads
mod Parts
mod Turns
