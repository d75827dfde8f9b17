-- kept_slips
pub mod Steps
