-- The table of pairs of kept slips.
pub mod Pairs
pub mod Steps
