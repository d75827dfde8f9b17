-- Laws of the pieces of a tray's own joins, and of the last step of composing.
pub mod PiecesFit
pub mod PlacesFlat
pub mod FinishSteps
pub mod LastSteps
