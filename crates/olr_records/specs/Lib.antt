pub mod In
pub mod Records
pub mod Fields
pub mod Front
pub mod Shape
pub mod Reading
pub mod inner
