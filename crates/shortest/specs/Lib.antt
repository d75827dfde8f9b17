-- The orders of kept slips, the shortest legend, and what is claimed of it.
pub mod Orders
pub mod Sides
pub mod Claims
pub mod Steps
