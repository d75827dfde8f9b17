-- The lent work area: where its tables stand and what their cells mean.
pub mod Layout
pub mod Tables
pub mod Numbered
pub mod Staging
pub mod Rows
