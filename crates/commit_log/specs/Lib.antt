pub mod LogImage
pub mod LogState
pub mod Opening
pub mod Pieces
pub mod OpenLog
pub mod Formatting
