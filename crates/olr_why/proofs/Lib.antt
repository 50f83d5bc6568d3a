pub mod Common
pub mod Lists
pub mod PairLengths
pub mod PairLists
pub mod AtMost
pub mod Widened
pub mod Trials
pub mod Tried
pub mod Halving
pub mod OfNames
pub mod Places
pub mod Tuples
pub mod Matchings
pub mod OneVerdict
pub mod Ends
pub mod Lacking
pub mod AllReasons
pub mod NearLines
mod OneLegs
mod OneRemedies
mod OneWhy
