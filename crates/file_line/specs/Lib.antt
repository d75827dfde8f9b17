-- file_line
pub mod Steps
