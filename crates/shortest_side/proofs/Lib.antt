-- The shortest legend of one side of a tray: the order named, what was found of the tray that is cut out.
pub mod NameSteps
pub mod SideSteps
