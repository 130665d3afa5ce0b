pub mod Quiet
pub mod Learned
mod Changed
pub mod Decided
pub mod LegalJournals
