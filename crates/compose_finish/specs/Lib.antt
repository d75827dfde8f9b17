-- compose_finish
pub mod Steps
