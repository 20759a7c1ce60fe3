pub mod Answers
pub mod Counted
pub mod Sheets
