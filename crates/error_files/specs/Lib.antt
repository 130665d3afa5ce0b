pub mod ErrorFile
pub mod TextPuts
