-- Composing one side of a tray: the tray that is cut out, what is composed of it told by the numbers of the whole tray, the ways through the call.
pub mod CutSteps
pub mod NamedSteps
pub mod TopSteps
pub mod StagedTells
