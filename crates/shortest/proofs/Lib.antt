-- The orders of kept slips: all orders of a list, the first best of a list, the claims proved, the search by places, computed specimens.
pub mod AllShortest
pub mod Firsts
pub mod Without
pub mod Orders
pub mod Shortest
pub mod ShortestAlone
pub mod Places
