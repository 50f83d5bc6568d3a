mod Common
pub mod Parts
pub mod Counts
pub mod Ranks
pub mod Places
pub mod Grouping
pub mod Meeting
pub mod Spans
pub mod Blocks
pub mod ByRank
pub mod Finding
pub mod Buckets
pub mod Firsts
pub mod Known
pub mod Permuted
