-- Laws.
pub mod ComposingSteps
pub mod FlatLoop
pub mod FlatAnswers
