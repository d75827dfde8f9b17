-- What the functions that compare slips ask and leave.
pub mod Equals
