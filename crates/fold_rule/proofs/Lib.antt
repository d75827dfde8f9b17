-- Laws of folding.
pub mod AllSpecimens
pub mod Bytes
pub mod Signs
pub mod FoldedTrays
