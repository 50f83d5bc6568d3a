-- The names that most proofs of this crate speak of, passed on from one place.
pub use Rattle.std.proofs.Common.{◌%◌, ◌*◌, ◌+◌, ◌++◌, ◌-◌, ◌/◌, ◌<◌, ◌==◌, All, Bool, Bor, Decides, List, None, Option, Some, [], ◌^◌, add-one, add-zero, ap, append_assoc, arith, bit_or, drop, false, get_or, inl, inr, is_some, length, length-append, length-drop, length-take, map, max, min, mul-le-mul_left, not, refl, replicate, rules, set, slice_index, slice_index_or, subst, suc, sym, take, true, true≢false, zero, ℕ, ◌∙◌, ◌∷◌, ◌≡◌, ◌≤◌, ◌⊎◌}
pub use Rattle.std.proofs.Math.ListN.{get_or-eq_default}
pub use Rattle.std.proofs.Math.Nat.{le-max_left, le-max_right, min-le_left, min-le_right, mul-le-mul_right, suc-mul}
pub use Rattle.std.proofs.Math.Seq.{get_or-append_seam, take-suc}
pub use Rattle.std.proofs.lemmas.Bool.Decides.{Decides-eqb, Decides-ltb, same_from_decides}
pub use Rattle.std.proofs.lemmas.Bool.{agree_below_at, cases_eq, cases_lt, cases_order, eqb-true}
pub use Rattle.std.proofs.lemmas.Fmt.{decimal_injective, decimal_is_IsNumeral, length-decimal-le, parse-decimal}
pub use Rattle.std.proofs.lemmas.List.Elements.{All-append, All-cons, All-contains, All-contains_itself, All-get_or, All-head, All-map, All-nil, All-tail, Contains-append_cases, Contains-append_left, Contains-append_right}
pub use Rattle.std.proofs.lemmas.List.Sums.{sum_by-cons, sum_by-le, sum_by-take-drop}
pub use Rattle.std.proofs.lemmas.List.{append-nil, drop-drop, get_or_append_left, get_or_at, get_or_default, length-map, map-append, map-id, take-append-drop, take_all, take_at, take_more, with_items_is}
pub use Rattle.std.proofs.lemmas.Option.{get_or_from_slice_get, slice_get-get_or, slice_get_past, slice_get_within}
pub use Rattle.std.proofs.lemmas.Simd.{get_or-chunk, get_or-put_chunk_above, get_or-put_chunk_at, get_or-put_chunk_below, get_or-zip2, length-chunk, length-put_chunk, length-zip2, map-map}
pub use Rattle.std.proofs.lemmas.Str.{IsUtf8-from_ascii, encode_ascii}
pub use Rattle.std.specs.Cmp.Lexicographic.{on_texts, pointwise}
pub use Rattle.std.specs.Global.{Vec}
pub use Rattle.std.specs.List.{list_any, sum_by}
pub use Rattle.std.specs.Prelude.{AllPairs, Contains, Err, IfSome, MatchBool, MatchOption, Ok, Result, decimal, nat_eq, nat_lt, option_map, slice_get, unwrap_or, ◌≢◌}
pub use Rattle.hex.specs.Hex.{IsBytes, decode_sized, encode_lower, lower_digits}
unfoldable pub use Rattle.hex.specs.Hex.{encode_with}
pub use Rattle.olr_base.proofs.Contained.{further, here, member}
pub use Rattle.olr_base.proofs.Rising.{behind_first, rest_rises, same_list}
pub use Rattle.olr_keys.specs.AnswersOf.{by_key, entry_of}
unfoldable pub use Rattle.olr_keys.specs.AnswersOf.{answers_of, completions, completions_with, lists_up_to}
pub use Rattle.olr_keys.specs.Bounds.{AreBoundsOf, AreFirstBounds, AreLastBounds, HasNoCompletionBy, IsBound, IsHeldBefore, IsLeastNumber, IsLeft, IsLowerBound, IsTotalThrough, lesser_of, lists_of}
pub use Rattle.olr_keys.specs.Cursor.{AreRanks, IsCursorOf, IsMark, cursor_text, hexadecimal, key_text, ranks_text}
pub use Rattle.olr_keys.specs.Finder.{IsAfter, IsLeastOf, IsNext, IsNextKey, IsPosition}
pub use Rattle.olr_keys.specs.Headline.{AreAllPages, AreEnded, AreResumed, joined}
pub use Rattle.olr_keys.specs.Key.{AreBefore, IsBefore, IsInRange, IsRank, KeyValue}
pub use Rattle.olr_keys.specs.Laws.{HasList, KeysAreInRange, NoPageBehindOthers, OneList, RemainingAreBelow, TotalsAreBelow}
pub use Rattle.olr_keys.specs.Matching.{IsCompletion, IsKey, IsRemainingTotal, leg_to}
pub use Rattle.olr_keys.specs.Order.{asymmetric, compared, compared_by, same_key, transitive}
pub use Rattle.olr_keys.specs.Page.{IsPageAfter, IsPageOf, IsRestAfter, PageValue, last_key_of, last_of, page_of}
pub use Rattle.olr_keys.specs.Product.{Completes, IsBeginning, IsHeld, IsJoined}
pub use Rattle.olr_keys.specs.Rows.{AreLastLayers, AreRowsOf, IsPredecessor, IsRowOf, IsStep, IsTotal, bytes_of, greatest, greatest_leg, held_bytes, layers_of, rows_of}
unfoldable pub use Rattle.olr_keys.specs.Rows.{most_of, width_of}
pub use Rattle.olr_keys.specs.Search.{Appends, HasCompletion, HasNoNextCompletion, HasNoStep, IsFirstAbove, IsFirstCompletion, IsFirstStep, IsFirstTotal, IsNextCompletion}
pub use Rattle.olr_keys.specs.Table.{AreLegs, AreLegsFrom, IsLayer, IsTable, Penalties, count_of, leg_at, max_leg, max_penalty, max_step, max_total, penalties_of, penalty_at}
pub use Rattle.olr_keys.specs.declared.mark.Mark.{Mark}
