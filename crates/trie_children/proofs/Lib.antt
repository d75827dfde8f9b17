-- Laws of parents and children.
pub mod Parents
pub mod Kids
pub mod Children
pub mod Near
