pub mod AnswerForm
pub mod WordLists
