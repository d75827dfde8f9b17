-- Requests on a tray: their answers stand in trays.
pub mod Steps
