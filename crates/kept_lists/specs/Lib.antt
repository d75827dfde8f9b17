-- kept_lists
pub mod Steps
