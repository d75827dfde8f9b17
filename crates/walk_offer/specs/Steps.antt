-- What only loops and their proofs need.
pub mod Runs
pub mod Marks
pub mod Offers
