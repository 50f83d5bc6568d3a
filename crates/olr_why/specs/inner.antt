-- What functions inside this crate promise one another: no public contract speaks of it.
pub mod Ends
pub mod Pairs
pub mod Trial
pub mod Trying
