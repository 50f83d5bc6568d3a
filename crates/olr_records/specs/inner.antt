-- What serves the contracts of inner functions and the invariants of types. No rule is here.
pub mod Amount
