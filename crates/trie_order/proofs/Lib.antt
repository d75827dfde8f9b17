-- The order of members: its laws, the loops, and the proofs of the functions.
pub mod Ordered
pub mod Comparing
pub mod Inserting
pub mod Precedes
pub mod AllMembers
pub mod Bounds
pub mod RankLoop
pub mod SortLoops
pub mod CommonTable
pub mod Specimens
