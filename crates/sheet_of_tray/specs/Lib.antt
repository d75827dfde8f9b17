-- sheet_of_tray
pub mod Steps
