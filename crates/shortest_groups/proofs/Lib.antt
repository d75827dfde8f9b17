-- Laws of marks and groups.
pub mod BestPlace
pub mod FillLoop
pub mod GroupMarks
pub mod Pairs
pub mod ReadLoop
pub mod SeekLoop
pub mod StoreLoop
pub mod Worked
