-- The index of beginnings: laws of building, of the one pass, and of asking.
pub mod Building
pub mod Passing
pub mod Asking
