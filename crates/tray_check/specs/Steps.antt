-- What only loops and their proofs need.
pub mod Checks
