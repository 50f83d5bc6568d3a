-- What functions inside this crate promise one another: no public contract speaks of it.
pub mod PageOfParts
pub mod Added
