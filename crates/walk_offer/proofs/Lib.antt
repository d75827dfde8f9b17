-- Laws of one slip of a visit.
pub mod AllSpecimens
pub mod RunLaws
pub mod ScanLaws
pub mod MarkLaws
pub mod JoinCells
pub mod FreeLoop
pub mod OfferStep
