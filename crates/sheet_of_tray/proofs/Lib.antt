-- Laws behind the sheets of a tray.
pub mod SideSteps
pub mod ShownSheets
