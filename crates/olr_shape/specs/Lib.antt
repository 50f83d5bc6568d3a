pub mod Position
pub mod Shape
pub mod Laws
pub mod inner
