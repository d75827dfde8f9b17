-- What is stored into a lent list.
pub mod Firsts
