pub mod Repeats
pub mod Pairs
pub mod ByNode
pub mod Window
pub mod ByBoundingBox
pub mod inner
