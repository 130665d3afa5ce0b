pub mod Counts
pub mod Rows
pub mod Histories
pub mod Told
pub mod WorldRows
pub mod WorldSteps
