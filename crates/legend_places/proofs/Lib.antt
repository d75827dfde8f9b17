-- Laws of places.
pub mod LowestPlace
pub mod PlacesAre
pub mod PlacesLoop
