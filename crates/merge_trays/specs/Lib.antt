-- The steps of merging two trays.
pub mod Steps
