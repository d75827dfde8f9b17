-- The search for the shortest legend.
pub mod Steps
