-- The loops that tell the kept members.
pub mod MarkLoop
pub mod AsideTest
pub mod KeptLoop
pub mod Told
