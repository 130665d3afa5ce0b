pub mod Accepted
pub mod Overwriting
pub mod FieldTexts
pub mod Rewritten
