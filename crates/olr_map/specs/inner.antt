-- What serves the contracts of inner functions and the invariants of types. No rule is here.
pub mod Ending
pub mod Reading
pub mod Settling
