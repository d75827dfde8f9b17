-- fold_letters
pub mod Steps
