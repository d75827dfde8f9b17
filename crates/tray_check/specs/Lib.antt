-- The steps of the tray check.
pub mod Steps
