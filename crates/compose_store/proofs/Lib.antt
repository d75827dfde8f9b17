-- The records made of the staged numbers.
pub mod Records
pub mod Stored
