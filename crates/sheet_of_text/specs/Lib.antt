-- sheet_of_text
pub mod Steps
