-- The names that most proofs of this crate speak of, passed on from one place.
pub use Rattle.std.proofs.Common.{◌%◌, ◌*◌, ◌+◌, ◌++◌, ◌-◌, ◌/◌, ◌<◌, Bool, Err, FitsSigned, List, MatchOption, MatchResult, None, Ok, Option, Result, Some, [], ◌^◌, add-one, ap, append-nil, arith, cond, drop, eqb, false, get_or, inl, inr, length, ltb, map, min, of_z, pos, refl, rules, set, suc, sum, sym, take, to_z, true, vec_len, w32, zero, ℕ, ℤ, ◌∙◌, ◌∷◌, ◌≡◌, ◌≢◌, ◌≤◌, ◌⊎◌}
pub use Rattle.std.proofs.Math.Nat.{div-add-mod, div-lt_iff_lt-mul, div-mul-le_self, eq-or-lt_of_le, mod-lt, mul_comm}
pub use Rattle.std.proofs.lemmas.Bool.Decides.{Decides-eqb, nat_tests}
pub use Rattle.std.proofs.lemmas.Bool.{and_from, and_parts, cases_Bool, cases_eq, cases_lt, cond-false, cond-true, eq-eqb, eqb-true, false≢true, ltb-false, ltb-true, ne_eqb, not-false, not-true}
pub use Rattle.std.proofs.lemmas.Cmp.{nat_eq_equiv}
pub use Rattle.std.proofs.lemmas.Int.{clamps, ints, to_z-of_z}
pub use Rattle.std.proofs.lemmas.List.Elements.{All-filter, All-head, All-map, All-more, All-nil, All-push, All-tail, All-weaker, Contains-append_left, Contains-append_right, Contains-get_or, Contains-push, filter-append, filter_passes}
pub use Rattle.std.proofs.lemmas.List.Folds.{drop_split, list_any-append, list_any_at}
pub use Rattle.std.proofs.lemmas.List.Kept.{AllPairs-filter, AllPairs-from_increasing}
pub use Rattle.std.proofs.lemmas.List.Sorted.{All-permutation, Contains-permutation, IsNonDecreasingBy-from_sort, IsNonDecreasingBy-from_sort_by_key, IsPermutation-map, IsPermutation-sym, answers_always, length_permutation, searched}
pub use Rattle.std.proofs.lemmas.List.Sums.{count_by-le-length, sum_by-cons, sum_by-le-sum_by, sum_by-take-le, sum_by_more}
pub use Rattle.std.proofs.lemmas.List.{drop-map, drop-set-add, drop-set-lt, drop_all, ext_get_or, get_or-drop, get_or-map, get_or-set_other, get_or-set_same, get_or-take, get_or_append_left, get_or_default, get_or_push, get_or_read, length-drop, length-map, length-set, length-take, length_push, map-append, nil_from_length, take-append-drop, take-map, take-set-le, take_all, take_more, take_more_set}
pub use Rattle.std.proofs.lemmas.Option.{get_or_from_slice_get, same_Some, slice_get-get_or, slice_get_within}
pub use Rattle.std.specs.List.Sorted.{IsBinarySearchResult, IsNonDecreasingBy, IsPermutation, IsSearchInRange, IsSorted, IsStrictlyIncreasing}
pub use Rattle.std.specs.List.{All, IsAllAdjacentAnswer, concat, filter, list_any}
pub use Rattle.std.specs.Ordering.{nat_cmp}
pub use Rattle.std.specs.Prelude.{Contains, IsSomeAnd, IsTrue, int_le, slice_get, slice_index, slice_range, ◌↔◌, ◌≤ℤ◌}
pub use Rattle.olr_base.specs.declared.degrees.Degrees.{Degrees}
pub use Rattle.olr_index.specs.ByBoundingBox.{AreBlocks, AreBlocksBelow, AreByRank, Covers, HasItsBoundingBox, NoneMeets, between, bounding_box_at, has_rank, meets, meets_in_latitude, meets_in_longitude, placed_from}
unfoldable pub use Rattle.olr_index.specs.ByBoundingBox.{bounding_boxes_by_rank, ranks_in}
pub use Rattle.olr_index.specs.ByNode.{IsGrouping, IsLinesOf}
pub use Rattle.olr_index.specs.Repeats.{AllDiffer, IsFirstRepeat, Sorts}
pub use Rattle.olr_index.specs.Window.{IsSpan, IsWindow, Meets, MeetsAt}
pub use Rattle.olr_index.specs.declared.window.BoundingBox.{BoundingBox}
pub use Rattle.olr_index.specs.declared.window.PlacedLine.{PlacedLine}
pub use Rattle.olr_index.specs.inner.Buckets.{AreHeads, IsHead, IsIndex}
pub use Rattle.olr_index.specs.inner.Packing.{AreCounts, ArePlaced, AreStarts, AreWithin, IsPacked, count_at, count_before, parts_from}
unfoldable pub use Rattle.olr_index.specs.inner.Packing.{parts}
