-- compose_store
pub mod Steps
