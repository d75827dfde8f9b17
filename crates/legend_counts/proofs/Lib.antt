-- Laws of counting before writing.
pub mod SumLoops
pub mod CountSteps
