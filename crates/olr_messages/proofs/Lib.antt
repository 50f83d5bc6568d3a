mod Common
pub mod FirstLine
pub mod Fronts
pub mod Tabs
pub mod Once
pub mod Chunks
pub mod Steps
