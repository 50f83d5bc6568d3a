-- The names that most definitions of this crate speak of, passed on from one place.
pub use Rattle.olr_binary.specs.declared.reference.Reference.{Reference}
pub use Rattle.olr_candidates.specs.declared.candidate.Candidate.{Candidate}
pub use Rattle.olr_keys.specs.Key.{KeyValue}
pub use Rattle.olr_keys.specs.Page.{PageValue}
pub use Rattle.olr_keys.specs.declared.mark.Mark.{Mark}
pub use Rattle.olr_road.specs.RoadMap.{RoadMap}
pub use Rattle.olr_road.specs.declared.place.Place.{Place}
pub use Rattle.olr_matching.specs.declared.matched.Leg.{Leg}
pub use Rattle.olr_matching.specs.declared.matched.Matched.{Matched}
pub use Rattle.olr_route.specs.declared.piece.Piece.{Piece}
pub use Rattle.olr_route.specs.Route.{id_at}
