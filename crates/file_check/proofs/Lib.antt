-- The loop that checks a tray file, turn by turn.
pub mod CheckTurns
