-- What the programs print, and what the functions that write it into a lent buffer ask and leave.
pub mod Sheets
pub mod Sides
pub mod Programs
pub mod Lent
pub mod Stored
