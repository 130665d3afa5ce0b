pub mod Blocks
pub mod FramesOfBytes
pub mod Journals
pub mod Represented
pub mod ReadFrames
