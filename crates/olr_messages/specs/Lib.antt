pub mod Lines
pub mod Content
pub mod Messages
