-- legend_write
pub mod Steps
