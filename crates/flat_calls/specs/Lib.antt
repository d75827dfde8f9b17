-- Composing and finding over slices of numbers: `join_cells` numbers a join, `record_cells` a record of places, two an occurrence.
pub mod Steps
