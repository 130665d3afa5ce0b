pub mod Generated
pub mod Numerals
pub mod Walked
