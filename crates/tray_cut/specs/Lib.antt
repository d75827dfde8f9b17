-- What choosing slips, and writing chosen ones, ask and leave.
pub mod Choosing
