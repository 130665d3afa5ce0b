pub mod DutyBytes
pub mod DutyImage
pub mod DutyState
pub mod DutiesRead
pub mod OpenRegister
pub mod Formatting
