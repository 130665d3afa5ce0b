pub mod LineVerdict
pub mod Rooms
pub mod LineLaws
pub mod AskedLines
