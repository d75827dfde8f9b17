-- Laws behind the sheet of a text.
pub mod TextSteps
pub mod Trims
