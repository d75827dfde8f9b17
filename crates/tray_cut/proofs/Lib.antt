-- Slips chosen out of a tray: the loop that chooses those of a side, and the one that writes chosen ones.
pub mod SideLoop
pub mod WriteLoop
pub mod CutTray
pub mod SideCut
