-- Laws of the numbering, and the proofs of its functions.
pub mod Ranked
pub mod LevelParts
pub mod Turns
pub mod StageTurns
pub mod AllNumbered
pub mod StageLoops
