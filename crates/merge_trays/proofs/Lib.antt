-- Two trays merged: what refuses the call, the steps from the new slips to the outcome, the sides written.
pub mod InputRows
pub mod Outcome
pub mod SideLoop
pub mod MergeSteps
