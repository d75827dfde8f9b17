-- Laws of composing into lists of structs.
pub mod Composing
