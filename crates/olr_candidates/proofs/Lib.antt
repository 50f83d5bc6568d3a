pub mod Common
pub mod Cutting
pub mod Joined
pub mod Values
mod Projections
mod Polylines
mod LineCandidates
mod InOrder
mod Lists
mod WindowAround
mod OfPoints
mod SeenLines
mod SeenFrom
mod OneList
mod ByNumbers
mod NearLines
mod NearWindow
mod NearestLines
mod Members
mod PointLaws
mod AllPoints
