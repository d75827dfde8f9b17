-- file_read
pub mod Steps
