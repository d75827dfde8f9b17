-- Laws.
pub mod Answering
pub mod Begins
pub mod Checks
pub mod Telling
