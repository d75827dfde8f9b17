-- What the step of laying asks and gives.
pub mod OnePiece
