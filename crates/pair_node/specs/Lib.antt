pub mod NodeState
pub mod StartedNode
pub mod WrittenFrame
pub mod LearnedEntries
pub mod Messages
pub mod StoredMessage
pub mod Decisions
