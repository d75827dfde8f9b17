-- Steps and failure links by node numbers.
pub mod Links
