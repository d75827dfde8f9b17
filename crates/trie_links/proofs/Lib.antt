-- Laws of steps and failure links.
pub mod Steps
pub mod Fails
