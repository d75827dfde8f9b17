-- Laws of composing.
pub mod TopSteps
