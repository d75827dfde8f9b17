-- Laws of staging pieces, and of writing their legend and places.
pub mod StageSteps
pub mod WriteSteps
