pub mod Neither
pub mod Checks
pub mod Contained
pub mod Rising
