pub mod Lines
pub mod KeptCounts
pub mod CompanyWords
pub mod TallyLines
pub mod Words
