pub mod CarrierFile
pub mod FrameFault
pub mod Told
