-- The plain rule, the walk, the legend, and what is claimed of them.
pub mod Joins
pub mod Walk
pub mod Legends
pub mod Orders
pub mod Composing
pub mod Sides
pub mod Claims
pub mod Steps
