-- Tidied is what the code does, step by step; Paths says of any list what this comes to, and on the records of a diagram it is
-- the `tidied_arcs` of layers, as Counted is its `count_arcs`.
pub mod Counted
pub mod InUse
pub mod Paths
pub mod Tidied
