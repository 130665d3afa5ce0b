pub mod WordLines
pub mod WordReading
