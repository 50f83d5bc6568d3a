-- The names that most proofs of this crate speak of, passed on from one place.
pub use Rattle.std.proofs.Common.{◌%◌, ◌*◌, ◌+◌, ◌++◌, ◌-◌, ◌/◌, ◌<◌, ◌==◌, All, AllPairs, Any, Bool, Contains, Decides, IsSome, List, MatchOption, None, Option, Some, [], add-mul, add-one, add-zero, ap, append-nil, append_assoc, arith, below_more, drop, drop-cons, eq-zero-or-pos, false, get_or, inl, inr, is_some, length, length-take-le, mul-le-mul_left, mul-le-mul_right, one-mul, refl, slice_get, slice_index_or, string_bytes, subst, suc, sym, take, true, zero, ℕ, ◌↔◌, ◌∙◌, ◌∷◌, ◌≡◌, ◌≢◌, ◌≤◌, ◌⊎◌}
pub use Rattle.std.proofs.Math.Nat.{div-add-mod, div-lt_iff_lt-mul, mod-lt}
pub use Rattle.std.proofs.lemmas.Bool.{cases_eq, cases_lt}
pub use Rattle.std.proofs.lemmas.List.Elements.{All-push, All-take, Contains-append_left, Contains-push, Contains-push_cases}
pub use Rattle.std.proofs.lemmas.List.{drop_all, get_or-append-add, get_or-map, get_or_append_left, get_or_default, get_or_past, length-append, length-map, length_push, nil_from_length, take_more}
pub use Rattle.std.proofs.lemmas.Option.{get_or_from_slice_get, same_Some, slice_get-get_or, slice_get_within}
pub use Rattle.std.specs.Prelude.{⊤}
pub use Rattle.olr_base.specs.Coordinates.{Coordinates, coordinates_of}
pub use Rattle.olr_binary.specs.Reference.{points_of}
pub use Rattle.olr_binary.specs.declared.point.Next.{Next}
pub use Rattle.olr_binary.specs.declared.reference.Reference.{Reference}
pub use Rattle.olr_candidates.proofs.Values.{in_range, one_changed, same_name}
pub use Rattle.olr_candidates.specs.Candidates.{AreTooMany, IsCandidateAt, IsOneOf}
pub use Rattle.olr_candidates.specs.Laws.{NoListOfPointAndTooMany, NoListsAndTooMany, OneCandidateALine, OneListOfNearest, OneListOfPoint}
pub use Rattle.olr_candidates.specs.Points.{AreCandidatesOf, AreLists, HasTooMany, IsLayersFault, lists_of}
pub use Rattle.olr_candidates.specs.Tolerances.{IsTolerance, greatest_of, least_of, order_of}
pub use Rattle.olr_candidates.specs.declared.candidate.Candidate.{Candidate}
pub use Rattle.olr_candidates.specs.declared.tolerances.Tolerance.TheVariants.{Bearing, Class, Lowest, Percent, Radius, Slack}
pub use Rattle.olr_candidates.specs.declared.tolerances.Tolerance.{Tolerance}
pub use Rattle.olr_candidates.specs.declared.tolerances.Tolerances.{Tolerances}
pub use Rattle.olr_keys.specs.Answers.{AreAnswers}
pub use Rattle.olr_keys.specs.Key.{IsBefore, KeyValue}
pub use Rattle.olr_keys.specs.Laws.{OneList}
pub use Rattle.olr_keys.specs.Matching.{IsKey}
pub use Rattle.olr_keys.specs.Table.{Penalties}
pub use Rattle.olr_matching.proofs.LegLaws.{count_is, layers_count}
pub use Rattle.olr_matching.proofs.LengthRows.{no_candidate}
pub use Rattle.olr_matching.proofs.Lists.{all_at, by_index, push_each, same_some}
pub use Rattle.olr_matching.proofs.OneLayers.{long, not_empty}
pub use Rattle.olr_matching.proofs.Pairs.{candidates_at, one_next}
pub use Rattle.olr_matching.proofs.Points.{at_least_two, leads_on, list_of, some_at}
pub use Rattle.olr_matching.specs.Layers.{AreLayersOn, IsCandidateOf, LayersValue, LeadsOn, length_at}
pub use Rattle.olr_matching.specs.LayersLaws.{OneLayers}
pub use Rattle.olr_matching.specs.Leg.{IsAdmitted, IsAdmittedLength, class_limit, greatest_admitted, least_admitted, leg_penalty}
pub use Rattle.olr_road.specs.RoadMap.{RoadLine, RoadMap, head_of}
pub use Rattle.olr_road.specs.declared.place.Place.{Place}
pub use Rattle.olr_route.specs.Least.{IsLeastLength, IsLengthWithin}
pub use Rattle.olr_why.specs.Chain.{AdmitsPlaces, AreAdmitted, AreAdmittedBehind, HasMatching, HasTuple, IsCandidatePlace, IsFirstMatching, IsUncrowded}
pub use Rattle.olr_why.specs.Laws.{MatchHasAnswers, MatchingHasKey, OneVerdict, OneWhy, WiderKeeps}
pub use Rattle.olr_why.specs.Legs.{AreLegReasons, ArePairs, IsBetter, IsLegReason, IsPairLength, IsShorterUnder, IsUpTo, far}
pub use Rattle.olr_why.specs.Reasons.{AreLegs, AreLegsFor, ArePointReasons, IsCountOf}
pub use Rattle.olr_why.specs.Remedies.{AreRemedies, AreWider, IsChanged, IsEnough, IsGreatestUncrowded, IsLeastEnough, IsNarrower, IsRemedyWithoutBans, IsUnbanned, IsUncrowdedWith, IsWider, by_trust, narrowed, value_of, without_bans}
unfoldable pub use Rattle.olr_why.specs.Remedies.{AreOfNames}
pub use Rattle.olr_why.specs.Text.{long_of, short_of}
pub use Rattle.olr_why.specs.Verdict.{AdmitsNone, HasNoCandidate, HasNoTuple, HaveCandidates, HavePairs, IsFirst, IsVerdict}
pub use Rattle.olr_why.specs.declared.leg.LegReason.{LegReason}
pub use Rattle.olr_why.specs.declared.pair.Better.{Better}
pub use Rattle.olr_why.specs.declared.pair.PairLength.{PairLength}
pub use Rattle.olr_why.specs.declared.point.PointReason.{PointReason}
pub use Rattle.olr_why.specs.declared.remedy.Remedy.{Remedy}
pub use Rattle.olr_why.specs.declared.trial.Trial.TheVariants.{NoMatching}
pub use Rattle.olr_why.specs.declared.verdict.Verdict.TheVariants.{Chain, Crowded, Leg, Match, Point}
pub use Rattle.olr_why.specs.declared.verdict.Verdict.{Verdict}
pub use Rattle.olr_why.specs.inner.Ends.{AreEnds, IsEnd, IsJoined}
pub use Rattle.olr_why.specs.inner.Pairs.{ArePairsFrom, IsAnswered, IsPair, IsPairAt}
pub use Rattle.olr_why.specs.inner.Trial.{IsCrowded, IsFirstKey, IsTrial}
pub use Rattle.olr_why.specs.inner.Trying.{AreCrowdedFrom, IsBracket, IsGreatest, IsMatchingWith, IsNoneUpTo, IsTrialWith}
