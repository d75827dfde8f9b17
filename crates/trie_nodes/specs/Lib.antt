-- The nodes of the prefix automaton, numbered from the sorted order of the members.
pub mod Numbering
pub mod Steps
