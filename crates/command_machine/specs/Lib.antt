pub mod Machine
pub mod Replies
pub mod ReplyText
pub mod CommandRows
pub mod Courses
pub mod Steps
pub mod Switches
pub mod Laws
