pub mod Rows
pub mod Legality
pub mod Items
pub mod Events
pub mod Steps
pub mod Deliveries
