pub mod Placement
pub mod RecordPlace
