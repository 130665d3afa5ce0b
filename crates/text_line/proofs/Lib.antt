pub mod NumberTexts
pub mod Splits
