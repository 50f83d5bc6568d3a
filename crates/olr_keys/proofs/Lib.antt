mod Common
mod Bounds
mod Completions
mod Joining
mod Sizes
mod Remaining
mod Marking
mod Layers
mod Held
mod Stepping
mod Least
mod Beginnings
mod Ranges
mod Listed
mod FromStart
pub mod PageLists
pub mod Chains
mod OneChain
mod CursorText
mod KeyText
pub mod Lacking
mod RanksText
mod Hexadecimal
mod Outcomes
mod Searching
mod Following
mod NextKeys
mod Bounding
mod Leaving
