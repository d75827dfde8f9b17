-- Laws.
pub mod Fitting
pub mod SideFits
pub mod RefusalsFit
pub mod Flat
pub mod Asks
pub mod Printing
pub mod TextRows
