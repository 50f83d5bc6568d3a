-- The names that most proofs of this crate speak of, passed on from one place.
pub use Rattle.std.proofs.Common.{◌&&◌, ◌+◌, ◌++◌, ◌-◌, ◌<◌, ◌==◌, All, Bool, List, MatchBool, None, Option, Some, [], ap, append_assoc, arith, drop, false, filter, get_or, if◌then◌else◌, inl, inr, length, length-append, map, max, min, nat_le, nat_lt, refl, rules, set, string_bytes, subst, suc, sym, take, true, zero, ℕ, ◌∙◌, ◌∷◌, ◌≡◌, ◌≢◌, ◌≤◌, ◌⊎◌}
pub use Rattle.std.proofs.lemmas.Bool.Decides.{Decides-and, Decides-eqb, Decides-like, nat_tests}
pub use Rattle.std.proofs.lemmas.Bool.{and_parts, both_ways, cases_Bool, cases_eq, cases_lt, eq-eqb, eqb-true, false≢true, le-leb, le-ltb, leb-true, lt-leb, lt-ltb, ltb-true, ne_eqb, or_cases, or_left, or_right}
pub use Rattle.std.proofs.lemmas.List.Elements.{All-cons, All-contains, All-from_get_or, All-get_or, All-head, All-more, All-nil, All-push, All-tail, All-weaker, Contains-append_cases, Contains-append_left, Contains-append_right, filter-append}
pub use Rattle.std.proofs.lemmas.List.Folds.{list_any-append, list_any_at, list_any_none, position_or_len_push}
pub use Rattle.std.proofs.lemmas.List.Sorted.{IsNonDecreasingBy-from_sort_by_key, IsPartitionPoint-from_clause, IsPartitionedBy-leb, IsPartitionedBy-ltb, list_any-IsPermutation}
pub use Rattle.std.proofs.lemmas.List.{append-nil, get_or-drop, get_or-take, length-drop, length-map, length-take-le, length_push, map-append, take_all}
pub use Rattle.std.specs.List.{AllZip, list_any, position_or_len}
pub use Rattle.std.specs.Prelude.{AllPairs, Any, Contains, Decides, slice_get}
pub use Rattle.olr_keys.specs.AnswersOf.{answers_of}
pub use Rattle.olr_keys.specs.Key.{IsBefore, KeyValue}
pub use Rattle.olr_keys.specs.Page.{IsRestAfter, last_of}
pub use Rattle.olr_matching.specs.Layers.{LayersValue}
pub use Rattle.olr_matching.specs.Matched.{IsMatchedBy}
pub use Rattle.olr_places.specs.Closeness.{Ground, IsClose, IsNear, ground_of, is_near, line, point}
pub use Rattle.olr_places.specs.Looking.{IsLooked, Looked, belongs, gap_of, is_close_to, is_within, listed_of, looking, looking_on, openers_of, openers_on, place_of}
pub use Rattle.olr_places.specs.Missing.{AreCovered, covers, has_step, longest_run, missing_of}
pub use Rattle.olr_places.specs.Places.{AreCounted, ArePlacesOf, IsCounted, IsOpenerAt, entry_of, verdict_in}
pub use Rattle.olr_places.specs.Steps.{HasEnded, LooksAt, Stands, gap_behind, gap_in, margin_in, one_more_at, places_in}
pub use Rattle.olr_places.specs.Verdict.{margin_of, verdict_of, verdict_word}
pub use Rattle.olr_places.specs.declared.ending.Ending.TheVariants.{Beyond, Cut, NoMore}
pub use Rattle.olr_places.specs.declared.ending.Ending.{Ending}
pub use Rattle.olr_places.specs.declared.limits.PlaceLimits.{PlaceLimits}
pub use Rattle.olr_places.specs.declared.looking.Looking.{Looking}
pub use Rattle.olr_places.specs.declared.opener.Opener.{Opener}
pub use Rattle.olr_places.specs.declared.places.Places.{Places}
pub use Rattle.olr_report.proofs.StepLists.{stretch}
pub use Rattle.olr_report.specs.Entries.{Entry, IsEntryAt, keys_of}
pub use Rattle.olr_report.specs.Steps.{Step, steps_in, steps_of}
pub use Rattle.olr_report.specs.declared.locating.Located.{Located}
pub use Rattle.olr_road.specs.RoadMap.{RoadMap}
pub use Rattle.olr_route.specs.declared.piece.Piece.{Piece}
