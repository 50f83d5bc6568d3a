pub mod JsonValues
pub mod Sent
pub mod Texts
