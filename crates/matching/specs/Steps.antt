-- What only loops and their proofs need.
pub mod Levels
pub mod Nodes
