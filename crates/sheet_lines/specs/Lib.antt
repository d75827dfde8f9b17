-- Numbers in columns, lines, and whole sheets, written into a lent buffer.
pub mod Steps
