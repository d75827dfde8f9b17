-- The loops over the pairs.
pub mod PairLoops
