pub mod Meeting
pub mod Shown
