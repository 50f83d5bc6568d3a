pub mod Common
pub mod StepLists
mod Appending
mod OneRoute
mod Parts
mod PlacesOnSteps
mod LegLengths
mod Within
mod SoundParts
mod Lines
mod Shown
mod PageEntries
mod OneEntry
pub mod JsonShape
pub mod ShownPage
pub mod ShapeValues
