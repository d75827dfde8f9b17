-- What is demanded of the definitions, and the specimens of the rules (docs/RULES.md, *Specimens*).
pub mod Sides
pub mod Claims
pub mod Starred
