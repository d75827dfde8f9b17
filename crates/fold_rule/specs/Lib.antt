-- How the bytes of tray files and text files are filed.
pub mod Folding
pub mod Claims
