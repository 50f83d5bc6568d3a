pub mod Line
pub mod Answers
pub mod Records
pub mod Steps
pub mod Run
