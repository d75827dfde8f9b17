-- Slips laid as one chain in a given order.
pub mod Arranging
pub mod Steps
