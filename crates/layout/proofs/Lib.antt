-- Laws of the work area.
pub mod AllSpecimens
pub mod Frames
pub mod RowLaws
pub mod Heads
pub mod AreaSlips
pub mod OwnLaws
pub mod Staged
