-- Laws of output links and tallies, and the loops that fill them.
pub mod Outs
pub mod OwnersLoop
pub mod OutputsLoop
