-- Laws on the first elements of a lent list, stored one after another.
pub mod Firsts
