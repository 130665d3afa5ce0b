pub mod Words
pub mod Prefixes
pub mod Steps
pub mod Seats
