-- What the steps of writing places ask and give.
pub mod OnePlace
