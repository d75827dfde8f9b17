-- The theory of the prefix automaton.
pub mod AllSpecimens
pub mod Endings
pub mod States
pub mod Finds
pub mod AsideNodes
pub mod Levels
pub mod Ranks
pub mod Numbering
pub mod Ranking
pub mod Numbered
pub mod LevelNodes
pub mod Marks
pub mod Paths
pub mod NodeLaws
