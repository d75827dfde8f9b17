-- The demands and the specimens of the rules, proved.
pub mod Sides
pub mod Demands
pub mod Starred
