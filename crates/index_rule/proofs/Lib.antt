-- The index of beginnings: computed specimens, its order, stretches of typed letters, one index, and the claims.
pub mod AllIndexes
pub mod Precedes
pub mod Stretches
pub mod OneIndex
pub mod Indexed
