-- The members of a tray in the order of their letters.
pub mod Order
pub mod Steps
