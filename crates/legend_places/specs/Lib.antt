-- Places as numbers.
pub mod Places
pub mod Steps
