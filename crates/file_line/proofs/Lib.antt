-- What the parser finds, and the ways through it.
pub mod Places
pub mod LineEnds
pub mod Fields
pub mod LineRows
