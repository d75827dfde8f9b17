-- Slips of equal side with equal letters: the steps of the comparisons, and of the loop over the second tray.
pub mod Comparing
pub mod NewSteps
