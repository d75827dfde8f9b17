-- Steps of the pass that copies a file.
pub mod Copying
