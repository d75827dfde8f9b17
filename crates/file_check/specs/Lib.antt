-- What the reader promises.
pub mod Readers
