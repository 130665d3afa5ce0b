pub mod KeptStates
pub mod Files
pub mod Edits
pub mod Steps
pub mod Replies
