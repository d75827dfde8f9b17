-- Laws of a lent buffer written part by part.
pub mod Puts
pub mod Numbers
