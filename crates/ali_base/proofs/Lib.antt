pub mod Digits
pub mod Trimming
pub mod PutBytes
pub mod Puts
pub mod Steps
pub mod DayTexts
pub mod FrontsAgain
pub mod NodeLetters
