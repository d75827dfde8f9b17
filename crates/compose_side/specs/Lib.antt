-- Composing one side of a tray.
pub mod Steps
