-- Laws of chains.
pub mod Behind
pub mod ChainStep
pub mod ChainsLoop
pub mod NeighbourPieces
