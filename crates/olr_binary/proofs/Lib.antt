mod Common
pub mod Base64
pub mod Unique
pub mod Layouts
pub mod Outcomes
pub mod Points
pub mod References
pub mod Same
mod Nesting
