-- The loop that copies a tray file, turn by turn, and the ways through read_tray.
pub mod CopyTurns
pub mod ReadRows
