-- The names that most proofs of this crate speak of, passed on from one place.
pub use Rattle.std.proofs.Common.{◌+◌, ◌++◌, ◌-◌, ◌<◌, Bor, List, None, Option, Some, [], ◌^◌, ap, append_assoc, arith, drop, get_or, inl, inr, length, ltb, map, negsuc, pos, refl, rules, subst, suc, sym, take, zero, ℕ, ℤ, ◌∙◌, ◌∷◌, ◌≡◌, ◌≤◌}
pub use Rattle.std.proofs.Math.Nat.{eq-or-lt_of_le}
pub use Rattle.std.proofs.lemmas.Bool.{cases_lt, lt-ltb, ltb-true}
pub use Rattle.std.proofs.lemmas.Fmt.{decimal_injective, decimal_is_IsNumeral, signed_decimal_injective}
pub use Rattle.std.proofs.lemmas.List.Elements.{All-append, All-cons, All-drop, All-get_or, All-head, All-map, All-nil, All-tail, All-take, All-weaker, Contains-get_or}
pub use Rattle.std.proofs.lemmas.List.Sorted.{All-permutation, Contains-permutation, IsNonDecreasingBy-insert, IsPermutation-cons, IsPermutation-insert, IsPermutation-refl, IsPermutation-sym, IsPermutation-trans, length_permutation}
pub use Rattle.std.proofs.lemmas.List.{append-nil, append_cancel_left, get_or-map, get_or_append_left, get_or_at, get_or_default, get_or_push, length-append, length-map, length-take-le, map-append, take-append-le, take_at}
pub use Rattle.std.proofs.lemmas.Option.{get_or_from_slice_get, slice_get-get_or, slice_get_within}
pub use Rattle.std.proofs.lemmas.Result.{err_from_is_err_and}
pub use Rattle.std.specs.Fmt.{decimal, signed_decimal}
pub use Rattle.std.specs.Int.Signed.{mag}
pub use Rattle.std.specs.List.Sorted.{IsNonDecreasingBy, IsPermutation, IsStrictlyIncreasing}
pub use Rattle.std.specs.List.{AllZip, concat, flat_map, insert, take-map}
pub use Rattle.std.specs.Prelude.{All, AllPairs, Contains, IfSome, MatchOption, filter, option_map, slice_get, slice_index, slice_index_or, unwrap_or, ◌⊎◌, ⊤}
pub use Rattle.std.specs.Str.Parse.{AllDigits, digits_value}
pub use Rattle.olr_base.specs.Checks.{AllPass, EachFault, Passes, Refuses}
pub use Rattle.olr_base.specs.Coordinates.{Coordinates, IsInRange, coordinates_of}
pub use Rattle.olr_base.specs.declared.degrees.Degrees.{Degrees}
pub use Rattle.olr_index.proofs.Permuted.{keys_differ_permuted, keys_rise, rising_differ, sorts_differ}
pub use Rattle.olr_index.specs.Repeats.{AllDiffer, Sorts}
pub use Rattle.olr_map.specs.Faults.{HasUnknownEnd, IsUnknown, IsUnknownLine, NamesUnknownLine}
pub use Rattle.olr_map.specs.Files.{AreAccepted, AreLinesAccepted, HasOutcome, IsFaultIn, IsFaultLeft, IsFaultOf, IsFaultWithin, IsMapLeft, IsMapOf, IsOfText, Texts, file_of, known, texts_of}
pub use Rattle.olr_map.specs.Rows.{ArePoints, HasValue, IsBan, IsEnd, IsLine, IsLineNamed, IsNode, IsNodeAt, NamesLines, SpellsAt}
pub use Rattle.olr_map.specs.Table.{AreRows, IsFaultOfTable, IsTableOf, RefusesRecord, Table, checks_of, fields_of, keys_of, others_of}
pub use Rattle.olr_map.specs.Tables.{IsBanSet, IsBansFault, IsLineSet, IsLinesFault, IsNodeSet, bans_table, lines_table, nodes_table}
pub use Rattle.olr_map.specs.declared.fault.MapFault.{MapFault}
pub use Rattle.olr_map.specs.declared.rows.LineRow.{LineRow}
pub use Rattle.olr_map.specs.declared.table.Stop.{Stop}
pub use Rattle.olr_map.specs.inner.Ending.{FaultOfFile, not_read, of_text}
pub use Rattle.olr_map.specs.inner.Reading.{AreEnds, HasText, IsLateFault, IsReadFault, Reports, SpellsIds, SpellsLine, StopsBan, apart, fault_of, unknown, wrong_row}
pub use Rattle.olr_map.specs.inner.Settling.{AddsRow, IsAmong, IsOfFile, IsSettled, Settles, SpellRows, StopsAfter, StopsIn, keys_read, no_memory, repeat, stopped, with_last}
pub use Rattle.olr_records.specs.Fields.{IsLength}
pub use Rattle.olr_records.specs.Records.{records_of}
unfoldable pub use Rattle.olr_records.specs.Records.{field_at}
pub use Rattle.olr_records.specs.Shape.{AreItems, IsItem, IsShape}
pub use Rattle.olr_records.specs.declared.file.File.TheVariants.{Bans, Lines, Nodes}
pub use Rattle.olr_records.specs.declared.file.File.{File}
pub use Rattle.olr_road.proofs.Zips.{zip_at, zip_push, zip_take}
pub use Rattle.olr_road.specs.Canonical.{ban_fields, between_ends, joined, line_fields, node_fields, part, place_text, row_text, shape_text}
pub use Rattle.olr_road.specs.Entries.{nodes_of}
pub use Rattle.olr_road.specs.RoadMap.{AreSoundBans, AreSoundLines, AreSoundNodes, HasEqualNeighbours, IsSoundLine, IsSoundMap, IsSoundNode, JoinsNodes, RoadMap, ban_of, head_of, line_of, node_of}
pub use Rattle.olr_road.specs.RoadMap.{IsAdjacent, Node, RoadLine, line_ids, node_ids}
pub use Rattle.olr_road.specs.declared.ban.Ban.{Ban}
