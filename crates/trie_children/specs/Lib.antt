-- Parents and children by node numbers.
pub mod Children
