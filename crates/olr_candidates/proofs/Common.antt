-- The names that most proofs of this crate speak of, passed on from one place.
pub use Rattle.std.proofs.Common.{◌*◌, ◌*ℤ◌, ◌+◌, ◌++◌, ◌+ℤ◌, ◌-◌, ◌-ℤ◌, ◌/◌, ◌<◌, ◌<ℤ◌, All, Bool, Err, FitsSigned, List, None, Ok, Option, Result, Some, [], ◌^◌, ap, append-nil, append_assoc, arith, decimal, drop, false, get_or, inl, inr, length, length-append, map, negsuc, of_z, pos, refl, rules, subst, suc, sym, take, to_z, true, w32, zero, ℕ, ℤ, ◌∙◌, ◌∷◌, ◌≡◌, ◌≢◌, ◌≤◌, ◌≤ℤ◌}
pub use Rattle.std.proofs.lemmas.Bool.{MatchBool-at_false, cases_eq, cases_lt, cases_order, cond_both, false_from_ne_true}
pub use Rattle.std.proofs.lemmas.Fmt.{decimal_injective, decimal_is_IsNumeral, decimal_nonempty}
pub use Rattle.std.proofs.lemmas.Int.{by_lt_z, ints, to_z-of_z}
pub use Rattle.std.proofs.lemmas.List.Edits.{get_or-insert_above, get_or-insert_at, get_or-insert_below, length-insert}
pub use Rattle.std.proofs.lemmas.List.Elements.{All-append, All-cons, All-contains, All-drop, All-nil, All-push, All-take, All-weaker, Contains-append_left, Contains-append_right, Contains-push, Contains-push_cases}
pub use Rattle.std.proofs.lemmas.List.Sorted.{All-permutation, Contains-permutation, IsPermutation-insert}
pub use Rattle.std.proofs.lemmas.List.{get_or-take, get_or_default, length-map, length-take, map_push, same_lists, take-append-le}
pub use Rattle.std.proofs.lemmas.Nat.{div_below, mul-le}
pub use Rattle.std.proofs.lemmas.Option.{get_or_from_slice_get, none-some, same_Some, slice_get-get_or, slice_get_read, slice_get_within}
pub use Rattle.std.specs.List.Sorted.{IsPermutation, IsStrictlyIncreasing}
pub use Rattle.std.specs.List.{insert, join_with_byte, range_with_len}
pub use Rattle.std.specs.Prelude.{◌==◌, AllPairs, Contains, Decides, IfSome, MatchOption, MatchResult, filter, min, nat_abs, option_map, slice_get, ◌||◌, ◌⊎◌, ⊤}
pub use Rattle.arrayvec.specs.ArrayVec.{ArrayVec}
pub use Rattle.olr_base.proofs.Contained.{first_or_last, further, here, no_longer}
pub use Rattle.olr_base.proofs.Rising.{AreFirst, place_counts, same_beginning, same_list}
pub use Rattle.olr_base.specs.Coordinates.{Coordinates, IsInRange, coordinates_of}
pub use Rattle.olr_binary.specs.Reference.{points_of}
pub use Rattle.olr_binary.specs.declared.point.Point.{Point}
pub use Rattle.olr_binary.specs.declared.reference.Reference.{Reference}
pub use Rattle.olr_candidates.specs.Candidate.{IsAlikeInBearing, IsAlikeInClass, IsCandidate, IsOnLine, IsWithinRadius, MeetsConditions, Rates, penalty_of}
pub use Rattle.olr_candidates.specs.Candidates.{AreCandidates, AreTooMany, IsBefore, IsCandidateAt, IsOneOf, IsRejectionAt, is_before}
pub use Rattle.olr_candidates.specs.Laws.{AreDepartures, AreInOrderOfIds, ArePlaces, CandidatesFailNone, HoldsOfEach, IsAsCandidate, IsOfLines, LiesOnLine, LiesUpToEnd, NearAreCandidates, NearIsOfLines, NearestAreInOrderOfIds, NearestAreNear, NoListAndTooMany, NoListOfPointAndTooMany, OneList, OneListOfNearest, OneListOfPoint, RejectedAreNone}
pub use Rattle.olr_candidates.specs.Near.{AreFailed, AreNearest, AreNearestOf, Describes, FailsExactly, HasPenalty, IsNearLine, IsNearLineAt, IsNearLineOf, IsNearer, IsOneNear, none_failed}
pub use Rattle.olr_candidates.specs.Nearest.{AnswersNearest, AreNearestAmong, AreNearestWithin, FindsNear, IsAmong, IsBehindLast, Keeps}
pub use Rattle.olr_candidates.specs.Points.{AreCandidatesOf, AreFirstLists, AreLists, HasTooMany, HoldsAt, IsCandidateOf, IsFirstTooMany, IsListOf, IsRejectionOf, lists_of}
pub use Rattle.olr_candidates.specs.Projection.{HasBearing, IsProjection, bearing_arc, polyline_of}
pub use Rattle.olr_candidates.specs.Query.{Answers, AreFound, AreSeenAmong, HoldAllWithin, CoversRadius, Finds, FindsTooMany, IsQueryOf, Projects, Rejects, Sees, SeesRadius, x_of}
pub use Rattle.olr_candidates.specs.Seen.{AreSeen, AreSeenFrom, AreSurroundings, IsSeen, ranks_of, seen_of}
pub use Rattle.olr_candidates.specs.declared.candidate.Candidate.{Candidate}
pub use Rattle.olr_candidates.specs.declared.near.NearLine.{NearLine}
pub use Rattle.olr_candidates.specs.declared.projection.Projection.{Projection}
pub use Rattle.olr_candidates.specs.declared.query.Query.{Query}
pub use Rattle.olr_candidates.specs.declared.rejection.Rejection.{Rejection}
pub use Rattle.olr_candidates.specs.declared.seen.SeenLine.{SeenLine}
pub use Rattle.olr_candidates.specs.declared.surroundings.Surroundings.{Surroundings}
pub use Rattle.olr_candidates.specs.declared.tolerances.Tolerances.{Tolerances}
pub use Rattle.olr_metric.specs.Plane.{scale_of, spot_of}
pub use Rattle.olr_metric.specs.Polyline.{IsAlong, IsNearest, IsPolyline, arc}
pub use Rattle.olr_metric.specs.Spot.{IsInPlane, distance}
pub use Rattle.olr_metric.specs.declared.polyline.Near.{Near}
pub use Rattle.olr_metric.specs.declared.spot.Spot.{Spot}
pub use Rattle.olr_road.specs.RoadMap.{HasEqualNeighbours, IsSoundLine, head_of, line_ids}
pub use Rattle.olr_road.specs.RoadMap.{RoadLine}
pub use Rattle.olr_road.specs.Windows.{IsWindowOf, MeetsWindow}
pub use Rattle.olr_road.specs.declared.BoundingBox.{BoundingBox}
pub use Rattle.olr_road.specs.declared.line.Line.{Line}
