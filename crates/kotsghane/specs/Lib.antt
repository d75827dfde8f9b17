-- The calls for other languages on one slip, a pair, a tray file and two trays.
pub mod Numbers
