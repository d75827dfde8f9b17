-- One slip more in an order.
pub mod OrderLoop
