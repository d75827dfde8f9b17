-- Laws of a slip's stretch, and of the overlap of two slips, whether it counts.
pub mod Counted
pub mod Stretches
