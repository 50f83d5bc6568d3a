-- What serves the inner contracts of this crate alone. The rules stand in the other files.
pub mod Below
