-- walk_offer
pub mod Steps
