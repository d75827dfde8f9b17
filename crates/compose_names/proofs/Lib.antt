-- Laws of rows of numbers put into tables.
pub mod AllSpecimens
pub mod Rows
pub mod NameLoops
