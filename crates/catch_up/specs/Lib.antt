pub mod CatchingUp
pub mod CatchUpAnswers
pub mod Plan
