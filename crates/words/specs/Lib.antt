-- Strings of letters, and the list vocabulary that the definitions are written in.
pub mod Lists
pub mod Words
pub mod Quoted
pub mod Steps
