pub mod Common
mod Runs
mod Covering
pub mod CloseLaws
mod FirstPlace
mod Members
pub mod Gaps
pub mod Opening
mod LookSteps
mod Progress
