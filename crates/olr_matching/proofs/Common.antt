-- The names that most proofs of this crate speak of, passed on from one place.
pub use Rattle.std.proofs.Common.{◌%◌, ◌*◌, ◌+◌, ◌++◌, ◌-◌, ◌/◌, ◌<◌, All, AllPairs, Bool, IfSome, IsTrue, List, MatchOption, None, Option, Some, [], add-mul, add-one, ap, arith, below_more, eq-or-lt_of_le, false, get_or, inl, inr, length, map, mul-le-mul_right, one-mul, option_map, refl, slice_get, slice_index_or, subst, suc, sum_by, sym, take, true, unwrap_or, zero, zero-add, ℕ, ◌∙◌, ◌∷◌, ◌≡◌, ◌≤◌}
pub use Rattle.std.proofs.lemmas.List.Elements.{All-map, All-push}
pub use Rattle.std.proofs.lemmas.List.Sums.{sum_by-cons}
pub use Rattle.std.proofs.lemmas.List.{append_assoc, ext_get_or, get_or-append-add, get_or-map, get_or_append_left, get_or_at, length-append, length-map, map-append, take_more}
pub use Rattle.std.proofs.lemmas.Option.{MatchOption-at_some, get_or_from_slice_get, same_Some, slice_get-get_or, slice_get-map, slice_get_cases, slice_get_within}
pub use Rattle.std.specs.Global.{Vec}
pub use Rattle.std.specs.List.{AllZip}
pub use Rattle.olr_binary.specs.Reference.{AreLinked, IsReference, points_of}
pub use Rattle.olr_binary.specs.declared.point.Next.{Next}
pub use Rattle.olr_binary.specs.declared.point.Point.{Point}
pub use Rattle.olr_binary.specs.declared.reference.Reference.{Reference}
pub use Rattle.olr_candidates.specs.Laws.{AreDepartures, ArePlaces, OneListOfPoint, OneLists, PenaltyAtMost}
pub use Rattle.olr_candidates.specs.Points.{AreCandidatesOf, AreLists, IsListOf, lists_of}
pub use Rattle.olr_candidates.specs.declared.candidate.Candidate.{Candidate}
pub use Rattle.olr_candidates.specs.declared.tolerances.Tolerances.{Tolerances}
pub use Rattle.olr_keys.specs.Key.{KeyValue}
pub use Rattle.olr_keys.specs.Matching.{IsCompletion}
pub use Rattle.olr_keys.specs.Table.{Penalties, count_of, leg_at, penalty_at}
pub use Rattle.olr_matching.specs.Admissible.{Admits, HasCandidate, IsMatching, IsRestBehind, KeysAreOfMatchings, TotalsAreOfParts}
pub use Rattle.olr_matching.specs.Layers.{AreLayersOn, IsCandidateOf, LayersValue, LeadsOn, leg_penalties, length_at, lengths_of, penalties_of}
pub use Rattle.olr_matching.specs.LayersLaws.{IsAdmittedPenalty, LegsAreAdmitted, OneLayers, PenaltiesAreOfCandidates}
pub use Rattle.olr_matching.specs.Leg.{IsAdmitted, IsAdmittedLength, class_limit, greatest_admitted, leg_penalty}
pub use Rattle.olr_matching.specs.LegOnMap.{IsLegFrom}
pub use Rattle.olr_matching.specs.Lengths.{AdmitPairs, AreLengthsBetween, AreLengthsOfLeg, AreLengthsOfLegs, AreLengthsTo}
pub use Rattle.olr_matching.specs.Matched.{AreCandidatesAt, AreLegsBetween, AreRanks, AreSound, IsLegAt, IsLegOf, IsLegOfPair, IsMatchedBy, IsOfRank, IsPair, IsRouteOfPair, IsSoundLeg, OneMatched}
pub use Rattle.olr_matching.specs.Penalties.{ArePenaltiesOfLeg, ArePenaltiesOfLegs}
pub use Rattle.olr_matching.specs.Routes.{IsAdmittedPair, RoutesValue}
pub use Rattle.olr_matching.specs.Searches.{AreSearchesOn, IsSearchFor, places_of}
pub use Rattle.olr_matching.specs.declared.leg_on_map.LegOnMap.{LegOnMap}
pub use Rattle.olr_matching.specs.declared.matched.Leg.{Leg}
pub use Rattle.olr_road.specs.Place.{IsDeparture, IsPlace}
pub use Rattle.olr_road.specs.RoadMap.{IsSoundMap, RoadMap}
pub use Rattle.olr_road.specs.RoadMap.{RoadLine}
pub use Rattle.olr_road.specs.declared.place.Place.{Place}
pub use Rattle.olr_route.specs.Least.{HasNoWalkWithin, IsLeastLength}
pub use Rattle.olr_route.specs.Reach.{AreLengthsOn, Covers, Lengths}
pub use Rattle.olr_route.specs.Route.{AreRoutePieces, IsRoute, IsRouteWithin}
pub use Rattle.olr_route.specs.Walk.{pieces_of, walk_length}
pub use Rattle.olr_route.specs.declared.piece.Piece.{Piece}
