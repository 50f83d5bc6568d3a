-- The names that most definitions of this crate speak of, passed on from one place.
pub use Rattle.olr_binary.specs.Reference.{points_of}
pub use Rattle.olr_binary.specs.declared.point.Point.{Point}
pub use Rattle.olr_binary.specs.declared.reference.Reference.{Reference}
pub use Rattle.olr_road.specs.RoadMap.{head_of}
pub use Rattle.olr_road.specs.RoadMap.{RoadLine}
pub use Rattle.olr_road.specs.declared.line.Line.{Line}
pub use Rattle.olr_base.specs.Coordinates.{Coordinates, coordinates_of}
pub use Rattle.olr_metric.specs.Difference.{difference}
pub use Rattle.olr_metric.specs.Plane.{spot_of}
