-- Laws of laying.
pub mod LayStep
pub mod OrderFits
