pub mod LockTelling
pub mod SlotRule
pub mod HeldWrites
pub mod SmallBookings
