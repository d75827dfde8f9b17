-- Finding up to where occurrences are stored: the checks, the counts, and one occurrence after another.
pub mod Steps
