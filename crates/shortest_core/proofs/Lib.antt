-- The steps of the search.
pub mod OrderSteps
pub mod WriteSteps
pub mod SeekSteps
