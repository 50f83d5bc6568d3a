-- The names that most proofs of this crate speak of, passed on from one place.
pub use Rattle.std.proofs.Common.{◌+◌, ◌++◌, ◌-◌, ◌<◌, ◌==◌, All, Bool, List, None, [], ap, append_assoc, arith, false, filter, get_or, inl, inr, length, nat_le, nat_lt, refl, subst, suc, sym, true, zero, ℕ, ◌∙◌, ◌∷◌, ◌≡◌, ◌≢◌, ◌≤◌, ◌⊎◌}
pub use Rattle.std.proofs.lemmas.Bool.{both_ways, cases_Bool, eqb-false, le-leb, le-ltb, leb-false, leb-true, lt-leb, ltb-true, ne_eqb, or_parts}
pub use Rattle.std.proofs.lemmas.List.Elements.{All-cons, All-contains, All-contains_itself, All-filter, All-head, All-nil, All-push, All-tail, All-take, All-weaker, Contains-append_cases, Contains-append_left, Contains-append_right, Contains-push, filter-append, filter_passes}
pub use Rattle.std.proofs.lemmas.List.{append-nil, get_or-map, length-append, length-map, map-append}
pub use Rattle.std.specs.Prelude.{AllPairs, Contains, MatchOption, if◌then◌else◌, slice_get}
pub use Rattle.olr_keys.specs.Key.{KeyValue, IsBefore}
pub use Rattle.olr_matching.specs.Layers.{LayersValue}
pub use Rattle.olr_places.proofs.CloseLaws.{covered_is, missing_is, none_missing, tests}
pub use Rattle.olr_places.proofs.Opening.{close_itself, first_opens, openers_begin, openers_more, openers_same}
pub use Rattle.olr_places.specs.Closeness.{IsNear, ground_of, line, point}
pub use Rattle.olr_places.specs.Looking.{looking, IsLooked, Looked, belongs, gap_of, is_within, listed_of, looking_on, openers_of, is_close_to, openers_on}
pub use Rattle.olr_places.specs.Missing.{covers}
pub use Rattle.olr_places.specs.Verdict.{margin_of, verdict_of}
pub use Rattle.olr_places.specs.declared.ending.Ending.TheVariants.{Beyond, Cut, NoMore}
pub use Rattle.olr_places.specs.declared.ending.Ending.{Ending}
pub use Rattle.olr_places.specs.declared.limits.PlaceLimits.{PlaceLimits}
pub use Rattle.olr_places_laws.specs.VerdictLaws.{AmbiguousIsElsewhere, AreClose, IsAtMost, IsElsewhere, IsFirstOf, IsMargin, IsOneOf, LooksAtMost, MarginIsOfNearest, NoneWithoutMatching, OneLooking, OpenersAreApart, UniqueIsClose, WereLookedAt}
pub use Rattle.olr_report.specs.Entries.{IsEntryAt, Entry, keys_of}
pub use Rattle.olr_report.specs.EntryLaws.{OneEntry}
pub use Rattle.olr_report.specs.Steps.{Step, steps_of}
pub use Rattle.olr_road.specs.RoadMap.{RoadMap}
pub use Rattle.olr_route.specs.declared.piece.Piece.{Piece}
