pub mod Common
mod Lines
mod Walks
mod SharedRoutes
mod Relaxing
mod Tight
mod Underway
mod Visiting
mod Spreading
mod TightPaths
mod LawsOfWalks
mod Arrived
mod Ending
mod InVain
mod Pages
