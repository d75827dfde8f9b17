-- Laws of the sheets.
pub mod AllSides
pub mod AllSpecimens
pub mod Columns
pub mod ReadBack
pub mod LongFiles
pub mod Stored
pub mod BlankSheets
