-- Finding: occurrences of slips in a text; states, steps and moves.
pub mod Moves
pub mod Occurrences
pub mod Steps
