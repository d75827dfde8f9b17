-- What only loops and their proofs need.
pub mod Linked
pub mod Scans
