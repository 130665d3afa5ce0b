pub mod MadeReply
pub mod DeskSteps
pub mod OpenedDesk
pub mod RefusedLines
