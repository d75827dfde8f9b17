-- The shortest legend: the ways through the call.
pub mod TopSteps
