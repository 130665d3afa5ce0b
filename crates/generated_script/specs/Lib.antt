pub mod Columns
pub mod GeneratedScript
pub mod Making
pub mod KeptScript
