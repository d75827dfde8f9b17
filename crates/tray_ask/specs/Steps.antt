-- What only functions within need.
pub mod Sides
