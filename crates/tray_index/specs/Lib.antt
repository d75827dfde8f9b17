-- What the steps of building and asking the index need.
pub mod Steps
