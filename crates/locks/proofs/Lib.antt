pub mod HeldValues
pub mod SlotSteps
