-- The overlaps of slips.
pub mod Pairs
