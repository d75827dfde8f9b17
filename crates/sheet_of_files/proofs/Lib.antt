-- Laws behind the functions from file bytes to sheets.
pub mod FileSteps
