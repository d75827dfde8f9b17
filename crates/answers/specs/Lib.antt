-- What the calls answer, and what they leave in the lent buffers, for every input.
pub mod WorkArea
pub mod Composing
pub mod Records
pub mod Flat
pub mod Finding
pub mod Shortest
pub mod Exported
pub mod Told
pub mod Steps
