pub mod HouseArithmetic
pub mod EditRules
pub mod Edits
pub mod GuideSoundness
pub mod EditedTables
pub mod KeptRows
