-- Laws behind the loops that file letters.
pub mod Loops
