-- Laws of tray files, and computed specimens.
pub mod AllSpecimens
pub mod FirstLines
pub mod LastBytes
pub mod LineFaults
pub mod SideColumns
