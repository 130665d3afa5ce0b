pub mod Options
pub mod FieldBytes
pub mod EditsOfBytes
pub mod NumberTexts
pub mod Marks
pub mod StreetTexts
pub mod EditTexts
pub mod EntriesOfBytes
