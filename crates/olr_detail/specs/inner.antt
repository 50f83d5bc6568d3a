pub mod Drawn
pub mod Members
