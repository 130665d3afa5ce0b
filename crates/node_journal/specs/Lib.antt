pub mod FrameBytes
pub mod JournalImage
pub mod JournalState
pub mod EpochsRead
pub mod OpenJournal
pub mod Formatting
