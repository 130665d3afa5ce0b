pub mod KeptCycles
pub mod CycleStanding
pub mod CycleReaders
pub mod SerialStanding
