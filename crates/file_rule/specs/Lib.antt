-- Tray files: their lines, the refusals 15 to 19, and what reading one answers.
pub mod Lines
pub mod Faults
pub mod Answers
