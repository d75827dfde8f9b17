-- The rows before place C, the steps of finding, and occurrences stored.
pub mod RecordAnswers
