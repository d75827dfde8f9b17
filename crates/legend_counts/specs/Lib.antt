-- legend_counts
pub mod Steps
