-- Trays: slips, set aside and kept, sides, refusals, and what the calls on a tray answer.
pub mod Limits
pub mod Slips
pub mod Aside
pub mod Faults
pub mod Told
pub mod Sides
pub mod Written
pub mod Answers
pub mod Stored
