pub mod LinesInBox
pub mod Json
pub mod GeoJson
