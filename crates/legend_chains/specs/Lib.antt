-- Pieces as pairs of numbers, and chains read off the lists of neighbours.
pub mod Pieces
pub mod Chains
pub mod Steps
