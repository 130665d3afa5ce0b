pub mod Cutting
pub mod Faults
pub mod Records
pub mod Readings
