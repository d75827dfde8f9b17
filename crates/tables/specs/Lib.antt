-- Tables in a lent work area.
pub mod Copying
pub mod Tables
