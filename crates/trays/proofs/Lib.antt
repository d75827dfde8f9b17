-- Laws of trays.
pub mod AllSides
pub mod AllSpecimens
pub mod Kept
pub mod LeftOut
pub mod Rising
pub mod Rows
pub mod Told
pub mod Found
pub mod Accepted
pub mod SetTrays
pub mod SidedTrays
pub mod Spans
pub mod Stored
pub mod Stops
pub mod WrittenSlips
pub mod WrittenTrays
pub mod Specimens
