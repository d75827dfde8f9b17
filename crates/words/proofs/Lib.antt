-- Laws and computed specimens of the definitions.
pub mod Tests
pub mod Members
pub mod Distinct
pub mod Orders
pub mod Strings
pub mod CommonPrefix
pub mod Overlaps
pub mod Sums
pub mod Maps
pub mod AllSpecimens
pub mod CommonLoop
pub mod OverlapLoop
pub mod Picks
pub mod Buffers
pub mod Runs
pub mod FlatLists
