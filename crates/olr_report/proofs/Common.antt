-- The names that most proofs of this crate speak of, passed on from one place.
pub use Rattle.std.proofs.Common.{◌*◌, ◌+◌, ◌++◌, ◌-◌, ◌<◌, All, Bool, Bor, List, None, OnOk, Option, Some, [], ◌^◌, add-zero, ap, append_assoc, arith, codes, drop, drop-drop, false, flat_map, get_or, if◌then◌else◌, inl, inr, length, length-append, map, min, option_copied, option_map, refl, rules, set, slice_get, slice_range, string_bytes, subst, suc, sum_by, sym, take, take-add, take_all, true, zero, zero-add, ℕ, ◌∙◌, ◌∷◌, ◌≡◌, ◌≤◌}
pub use Rattle.std.proofs.lemmas.List.Elements.{All-append, All-cons, All-drop, All-get_or, All-head, All-more, All-nil, All-pop, All-push, All-same, All-tail, All-take, All-weaker}
pub use Rattle.std.proofs.lemmas.List.Sums.{sum_by-cons, sum_by-drop_more}
pub use Rattle.std.proofs.lemmas.List.{append-nil, append_cancel_left, drop_all, drop_at, drop_min, drop_more, flat_map_more, length-drop, length-set, length-take, length_push, map_push, nil_from_length, take_min, take_more, take_more_set}
pub use Rattle.std.proofs.lemmas.Option.{none-some, same_Some}
pub use Rattle.std.specs.Global.{Vec}
pub use Rattle.olr_binary.specs.declared.reference.Reference.TheVariants.{Line, PointAlong}
pub use Rattle.olr_binary.specs.declared.reference.Reference.{Reference}
pub use Rattle.olr_keys.specs.Key.{KeyValue}
pub use Rattle.olr_keys.specs.declared.mark.Mark.{Mark}
pub use Rattle.olr_matching.specs.Matched.{IsSoundLeg, IsSoundMatched, OneMatched}
pub use Rattle.olr_matching.specs.declared.matched.Leg.{Leg}
pub use Rattle.olr_matching.specs.declared.matched.Matched.{Matched}
pub use Rattle.olr_report.specs.Entries.{AreEntriesOf, CanBeShown, Entry, HasLine, HasLocation, HasMatched, HasPart, HasPieces, IsEntryAt, IsEntryOf, IsOnMap, entry_of, keys_of}
pub use Rattle.olr_report.specs.Joined.{AreApart, IsForwards, IsJoined, IsJoinedRoute, IsNotEmpty, IsRouteOver, Touches}
pub use Rattle.olr_report.specs.Json.{candidate_object, drawn_object, entry_object, leg_object, located_members, matching_object, next_value, page_object, part_value, pieces_array}
pub use Rattle.olr_report.specs.Location.{AreLegsOf, IsLocation, IsMeasured, IsPartBetween, LocatedLine, LocatedPoint, LocatedValue, earliest_offset, first_length, last_length, latest_offset, located_value, pieces_if_any}
pub use Rattle.olr_report.specs.RoutePart.{part_drawn}
pub use Rattle.olr_report.specs.Shapes.{shape_if_asked, spot_if_asked, spots_if_asked}
pub use Rattle.olr_report.specs.ShownMap.{MapShown, map_shown, without_shapes}
pub use Rattle.olr_report.specs.Steps.{Step, end_of, place_at, start_of, steps_in, steps_of, steps_of_legs}
pub use Rattle.olr_report.specs.Text.{entries_rows}
pub use Rattle.olr_report.specs.TextRows.{end_row, entry_rows}
pub use Rattle.olr_report.specs.declared.locating.Located.{Located}
pub use Rattle.olr_road.specs.RoadMap.{IsSoundMap, RoadMap}
pub use Rattle.olr_road.specs.declared.place.Place.{Place}
pub use Rattle.olr_route.specs.Route.{IsPieceOn}
pub use Rattle.olr_route.specs.Walk.{piece_length}
pub use Rattle.olr_route.specs.declared.piece.Piece.{Piece}
pub use Rattle.olr_text.proofs.Nesting.{items_nest, option_nests}
pub use Rattle.olr_text.specs.JsonValues.{NestsWithin, array_of, maybe_member, or_null, whole}
pub use Rattle.serde_json.specs.Data.{Data, Members, member, no_members, object, string}
pub use Rattle.std.specs.List.{range_with_len}
