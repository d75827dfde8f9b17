-- The tables of groups of slips already laid.
pub mod Groups
pub mod Steps
