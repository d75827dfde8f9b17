-- Laws of tables, and the proofs of the functions on them.
pub mod CopyLoop
pub mod Tables
