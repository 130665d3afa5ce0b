pub mod FrontWord
pub mod BoardRule
pub mod Histories
