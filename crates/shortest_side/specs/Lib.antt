-- The shortest legend of one side of a tray.
pub mod Steps
