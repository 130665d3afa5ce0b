pub mod DutiesOfBytes
pub mod Registers
pub mod Represented
