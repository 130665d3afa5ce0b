pub mod Layout
pub mod Functions
pub mod RecordReading
pub mod Address
pub mod FieldChanges
