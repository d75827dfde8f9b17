-- The index of beginnings: its order and stretches, what the calls promise, and what is claimed.
pub mod Index
pub mod Answers
pub mod Claims
pub mod Steps
