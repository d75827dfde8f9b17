-- sheet_columns
pub mod Steps
