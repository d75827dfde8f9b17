-- input
pub mod Steps
