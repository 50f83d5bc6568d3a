-- The names that most proofs of this crate speak of, passed on from one place.
pub use Rattle.std.proofs.Common.{◌*◌, ◌+◌, ◌++◌, ◌-◌, ◌/◌, ◌<◌, Bool, FitsSigned, List, MatchOption, None, Option, Some, [], ◌^◌, ap, append_assoc, arith, drop, false, get_or, get_or-set_other, inl, inr, length, length-set, map, max, min, pos, refl, rules, set, subst, suc, sym, take, true, w32, zero, ℕ, ℤ, ◌∙◌, ◌∷◌, ◌≡◌, ◌≤◌, ◌≤ℤ◌, ◌⊎◌}
pub use Rattle.std.proofs.lemmas.Int.{ints, to_z-of_z}
pub use Rattle.std.proofs.lemmas.List.Elements.{All-append, All-contains, All-get_or, All-head, All-more, All-nil, All-push, All-same, All-tail, All-weaker, Contains-get_or}
pub use Rattle.std.proofs.lemmas.List.Sorted.{All-permutation, IsPermutation-map, length_permutation}
pub use Rattle.std.proofs.lemmas.List.Sums.{sum-map, sum_by-set}
pub use Rattle.std.proofs.lemmas.List.{append-nil, drop-append-le, drop-map, get_or-map, length-append, length-drop, length-map, length-take-le, map-append, map_push, take-append-le, take-map, take_all, take_more}
pub use Rattle.std.proofs.lemmas.Option.{get_or_from_slice_get, slice_get-get_or, slice_get-map, slice_get_within}
pub use Rattle.std.specs.Int.{abs_diff}
pub use Rattle.std.specs.List.{AllZip, concat, flat_map, sum_by}
pub use Rattle.std.specs.Prelude.{All, Contains, IsPermutation, IsSomeAnd, MatchBool, codes, decimal, int_lt, is_some, neg_ℤ, option_map, slice_get, slice_index, slice_range, string_bytes, sum, unwrap_or}
pub use Rattle.olr_base.specs.Coordinates.{Coordinates, IsInRange, coordinates_of}
pub use Rattle.olr_base.specs.declared.degrees.Degrees.{Degrees}
pub use Rattle.olr_index.specs.ByBoundingBox.{AreInOrder, bounding_boxes_of, placed_from}
pub use Rattle.olr_index.specs.ByNode.{IsGrouping}
pub use Rattle.olr_index.specs.Repeats.{Sorts}
pub use Rattle.olr_index.specs.declared.window.BoundingBox.{BoundingBox}
pub use Rattle.olr_road.specs.Axes.{AreDeficits, IsBetween, StartsBetween, deficit_of, east_of, least_of, north_of, outside, position_of}
pub use Rattle.olr_road.specs.Canonical.{ban_fields, between_ends, canonical_rows, joined, line_fields, node_fields, part, place_text, row_text, shape_text}
pub use Rattle.olr_road.specs.Entries.{AreGathered, HasBoundingBox, IsWithin, entry_id, line_in, lines_in, node_key, nodes_of}
pub use Rattle.olr_road.specs.Goals.{AreGoalsOn, Joins}
pub use Rattle.olr_road.specs.RoadMap.{AreSoundBans, IsSoundLine, IsSoundMap, RoadMap, ban_of, destinations_of, head_of, line_of, node_of, origins_of}
pub use Rattle.olr_road.specs.RoadMap.{IsAdjacent, Node, RoadLine, ban_key, ban_keys, line_ids, node_ids}
pub use Rattle.olr_road.specs.Steps.{IsStepOf, line_ranks}
pub use Rattle.olr_road.specs.declared.axes.Position.{Position}
pub use Rattle.olr_road.specs.declared.ban.Ban.{Ban}
pub use Rattle.olr_road.specs.declared.line_set.Entry.{Entry}
pub use Rattle.olr_road.specs.declared.step.Step.{Step}
pub use Rattle.olr_road.specs.inner.Whole.{ends_of, road_of, starts_of}
