-- The names that most proofs of this crate speak of, passed on from one place.
pub use Rattle.std.proofs.Common.{◌%◌, ◌*◌, ◌+◌, ◌++◌, ◌-◌, ◌/◌, ◌<◌, All, Bool, Err, Global, List, None, Ok, Option, Result, Some, Vec, [], ◌^◌, add-one, ap, arith, drop, drop-cons, false, get_or, inl, inr, length, length-append, map, refl, rules, subst, suc, sym, take, true, zero, ℕ, ◌∙◌, ◌∷◌, ◌≡◌, ◌≢◌, ◌≤◌, ◌⊎◌}
pub use Rattle.std.proofs.lemmas.Bool.{cases_eq, cases_lt}
pub use Rattle.std.proofs.lemmas.Grind.{common_steps}
pub use Rattle.std.proofs.lemmas.List.Elements.{All-cons, All-contains, All-get_or, All-map, All-nil, All-push, All-same, Contains-append_left, Contains-append_right, Contains-get_or, Contains-push, Contains-push_cases}
pub use Rattle.std.proofs.lemmas.List.Sorted.{Contains-permutation, IsPermutation-sym, answers_always, length_permutation}
pub use Rattle.std.proofs.lemmas.List.{append_assoc, get_or-append-add, get_or-append_right, get_or-map, get_or-set_other, get_or-set_same, get_or_append_left, get_or_default, get_or_past, length-map, length-replicate, map_more, map_push, take_all}
pub use Rattle.std.proofs.lemmas.Option.{get_or_from_slice_get, same_Some, slice_get-get_or, slice_get-map, slice_get_within, unwrap_or-slice_get}
pub use Rattle.std.specs.HashMap.{get}
pub use Rattle.std.specs.Option.{option_copied_mut}
pub use Rattle.std.specs.Ordering.{is_lt, nat_cmp}
pub use Rattle.std.specs.Prelude.{Contains, Decides, IsPermutation, IsSome, MatchBool, MatchOption, nat_eq, option_map, slice_get, slice_index, unwrap_or, ◌||◌}
pub use Rattle.olr_index.specs.ByNode.{IsLinesOf}
pub use Rattle.olr_road.specs.Place.{IsDeparture, IsPlace}
pub use Rattle.olr_road.specs.RoadMap.{IsSoundLine, IsSoundMap, RoadMap, ban_of, destinations_of, head_of, line_ids, origins_of}
pub use Rattle.olr_road.specs.RoadMap.{RoadLine}
pub use Rattle.olr_road.specs.Steps.{IsStepOf, line_ranks}
pub use Rattle.olr_road.specs.declared.ban.Ban.{Ban}
pub use Rattle.olr_road.specs.declared.place.Place.{Place}
pub use Rattle.olr_road.specs.declared.step.Step.{Step}
pub use Rattle.olr_route.specs.BellmanFord.{AreSound, IsLowered, IsOffered, Reaches}
pub use Rattle.olr_route.specs.Dijkstra.{AreAheadReached, AreAllReached, AreNodes, AreReachedFirst, AreVisited, Awaits, HasArrived, HasEnded, IsArrivalOver, IsArrived, IsDone, IsDoneAt, IsPushed, IsStepOver, MayGoOn, WaitsIn, asked_of, banned_at, own_reached, steps_at, still_banned, still_to_come}
pub use Rattle.olr_route.specs.Groups.{by_key, group_of, items_in}
pub use Rattle.olr_route.specs.Least.{IsLeastLength, IsLengthWithin}
pub use Rattle.olr_route.specs.NodeLengths.{ArePages, length_of, place_of}
pub use Rattle.olr_route.specs.Nodes.{EndsAt, StartsAt}
pub use Rattle.olr_route.specs.Reach.{AreLengthsOn, Covers, HasWalksTo, Lengths, length_to_start}
pub use Rattle.olr_route.specs.Route.{AreJoined, AreRoutePieces, IsPieceOn, IsRoute, IsRouteWithin, IsUpTo, id_at, ids_of}
pub use Rattle.olr_route.specs.Sharing.{HasNoBan, LeadOnAlike, Serves}
pub use Rattle.olr_route.specs.Shortest.{AreFirstTight, AreGroups, AreOnShortestPaths, AreTightAhead, FollowsFirstTight, HasUpTo, IsFirstTight, IsIn, IsOnPath, IsTightIn, IsTightPath, LeadsOn}
pub use Rattle.olr_route.specs.Starts.{node_length, table_in}
pub use Rattle.olr_route.specs.Steps.{AreWithin, IsAskedFor, IsKnownWithin, IsRelaxed, IsSearch, IsUseful, ReachesStart, rest_of_line, total}
pub use Rattle.olr_route.specs.Turn.{IsAllowed, IsOpen, IsTurn}
pub use Rattle.olr_route.specs.Walk.{AreTurns, IsDrivable, IsWalk, LeadTo, last_line, length_at, piece_length, pieces_from, pieces_of, start_of, walk_length}
pub use Rattle.olr_route.specs.declared.arrival.Arrival.{Arrival}
pub use Rattle.olr_route.specs.declared.groups.Groups.{Groups}
pub use Rattle.olr_route.specs.declared.piece.Piece.{Piece}
pub use Rattle.olr_route.specs.declared.search.Search.{Search}
pub use Rattle.olr_route.specs.declared.starts.Starts.{Starts}
pub use Rattle.olr_route.specs.declared.state.State.{State}
