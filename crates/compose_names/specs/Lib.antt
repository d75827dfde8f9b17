-- Joins and records of places, told by the numbers that slips have in another tray.
pub mod Steps
