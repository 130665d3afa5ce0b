pub mod FirstWords
pub mod AskTexts
pub mod EditTexts
pub mod ReportTexts
pub mod OrderTexts
pub mod CommandLines
