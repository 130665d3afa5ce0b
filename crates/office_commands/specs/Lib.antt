pub mod Commands
pub mod CommandText
pub mod LineReading
