-- Laws of lines and sheets written part by part.
pub mod Lines
pub mod LineLoops
