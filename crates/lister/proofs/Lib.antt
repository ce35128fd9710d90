pub mod Dictionary
pub mod Doors
pub mod Permutations
pub mod Rank
pub mod SoFar
