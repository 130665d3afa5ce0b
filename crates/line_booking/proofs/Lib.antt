pub mod Rooms
pub mod RecordActs
pub mod LineActs
pub mod StoredRecords
pub mod ActedRows
pub mod LineRows
pub mod SoundLines
pub mod LineTables
