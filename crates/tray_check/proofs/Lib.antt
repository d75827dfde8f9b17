-- Laws of the check of settings, tray, sides and text.
pub mod AllSpecimens
pub mod CheckLoops
pub mod BadSlip
pub mod TrayRows
pub mod SetRows
pub mod SideRows
pub mod TextRows
