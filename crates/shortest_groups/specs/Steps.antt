-- What only loops and their proofs need.
pub mod Marks
pub mod NextPlace
pub mod Working
