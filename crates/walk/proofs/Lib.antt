-- Laws of the walk over the tables.
pub mod VisitLoop
pub mod WalkableLaws
pub mod FirstNode
pub mod RowLoop
pub mod WalkLoop
