pub mod Coordinate
pub mod Joined
pub mod Geometry
pub mod Feature
pub mod Collection
