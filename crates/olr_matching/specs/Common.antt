-- The names that most definitions of this crate speak of, passed on from one place.
pub use Rattle.olr_binary.specs.Reference.{points_of}
pub use Rattle.olr_binary.specs.declared.point.Next.{Next}
pub use Rattle.olr_binary.specs.declared.reference.Reference.{Reference}
pub use Rattle.olr_candidates.specs.declared.candidate.Candidate.{Candidate}
pub use Rattle.olr_candidates.specs.declared.tolerances.Tolerances.{Tolerances}
pub use Rattle.olr_road.specs.Place.{IsDeparture}
pub use Rattle.olr_road.specs.RoadMap.{RoadMap}
pub use Rattle.olr_road.specs.declared.place.Place.{Place}
pub use Rattle.olr_route.specs.declared.piece.Piece.{Piece}
