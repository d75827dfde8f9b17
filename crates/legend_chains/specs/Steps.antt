-- What the steps of putting all chains ask.
pub mod Following
