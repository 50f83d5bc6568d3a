pub mod Candidates
pub mod Matchings
pub mod Pushed
pub mod Written
pub mod Pages
mod OneNear
mod OneDetail
mod Features
