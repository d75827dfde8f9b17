-- Laws of building.
pub mod BuildSteps
