pub mod FileJobs
pub mod EditJobs
pub mod Jobs
pub mod ReplyLines
pub mod JobReplies
pub mod SubmitFaults
