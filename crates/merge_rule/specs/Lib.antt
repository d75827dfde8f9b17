-- Two trays merged, each with its sides: the slips written, refusals, and what is claimed.
pub mod Merging
pub mod Claims
