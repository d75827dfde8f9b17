-- Laws.
pub mod TenNumbers
