pub mod Range
pub mod Coordinates
pub mod Checks
pub mod Counting
