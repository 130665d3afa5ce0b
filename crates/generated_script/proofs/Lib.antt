pub mod Digits
pub mod Lines
pub mod Commands
pub mod ColumnLines
pub mod DrawnRecords
