use Rattle.std.specs.List.{All, AllZip}
use Rattle.olr_road.proofs.Common.{IsGrouping, BoundingBox, Degrees, Entry, road_of, starts_of, ends_of, Ban, IsSoundLine, IsSoundMap, node_of, lines_in, HasBoundingBox, rules, ◌≡◌, ℕ, ◌<◌, List, length, get_or, sym, refl, ◌∙◌, length-map}
use Rattle.olr_road.specs.declared.node.Node.{Node as NodeByRank}
use Rattle.olr_road.proofs.Sets.{starts_known, ends_known}
use Rattle.olr_road.proofs.Steps.{lines_known}
use Rattle.olr_road.proofs.map.map_of.Goals as goal

-- what is known of the nodes of the lines is known of the entries that are read, and of the nodes
-- that are counted
known : (nodes_in : List Entry → List ℕ) (nodes count : ℕ) (entries read : List Entry)
    → read ≡ entries → nodes ≡ count
    → ((i : ℕ) → i < length (nodes_in entries) → get_or (nodes_in entries) i 0 < nodes) → (i : ℕ)
    → i < length (nodes_in read) → get_or (nodes_in read) i 0 < count
known nodes_in nodes count entries read same size is = rw same (rw (← size) is)

sound_lines : (nodes : List NodeByRank) (entries : List Entry) (points : List Degrees)
    (bans : List Ban) → IsSoundMap (road_of nodes entries points bans)
    → All (IsSoundLine (length nodes)) (lines_in points entries)
sound_lines nodes entries points bans sound = rw (← (length-map nodes node_of)) sound.lines.each

pub by_start_of-requires-clause-known : goal.by_start_of-requires-clause-known
by_start_of-requires-clause-known c =
    known starts_of _ _ c.args.entries.items c.deref.result.now c.deref.ensures.value (search rules)
    (starts_known _ c.args.points.items _ (sound_lines _ _ _ _ c.requires.map))

grouped : (nodes_in : List Entry → List ℕ) {nodes : ℕ} {entries read : List Entry} {count : ℕ}
    {groups : List (List ℕ)} → read ≡ entries → count ≡ nodes
    → IsGrouping (nodes_in read) count groups → IsGrouping (nodes_in entries) nodes groups
grouped nodes_in same size is = rw (← size) (rw (← same) is)

placed : (points read : List Degrees) (entries taken : List Entry)
    (bounding_boxes kept : List BoundingBox)
    → read ≡ points → taken ≡ entries → kept ≡ bounding_boxes → AllZip (HasBoundingBox read) taken
    bounding_boxes → AllZip (HasBoundingBox points) entries kept
placed points read entries taken bounding_boxes kept same each is all =
    rw is (rw (← each) (rw (← same) all))

pub placed_lines-requires-clause-within : goal.placed_lines-requires-clause-within
placed_lines-requires-clause-within c =
    rw c.deref-2.ensures.value (rw c.deref-3.ensures.value c.requires.within)

pub steps_of-requires : goal.steps_of-requires
steps_of-requires c = rw c.lines.ensures (lines_known _ _ _
    (grouped starts_of (c.deref.ensures.value ∙ sym c.deref-4.ensures.value) refl
    c.in_ok-by_start.ensures))

pub by_end_of-requires-clause-known : goal.by_end_of-requires-clause-known
by_end_of-requires-clause-known c =
    known ends_of _ _ c.args.entries.items c.deref-5.result.now c.deref-5.ensures.value
    (search rules) (ends_known _ c.args.points.items _ (sound_lines _ _ _ _ c.requires.map))

pub invariant_of-result : goal.invariant_of-result
invariant_of-result c =
    let size : c.len-node_count.result ≡ length c.args.nodes.items = search rules in
    record {
      sound = rw c.in_ok-bans.ensures c.requires.map;
      nodes_at_most = c.requires.nodes_at_most;
      lines_at_most = c.requires.lines_at_most;
      within = c.requires.within;
      started = grouped starts_of c.deref.ensures.value size c.in_ok-by_start.ensures;
      ordered = c.in_ok-steps.ensures.lines ∙ c.lines.ensures;
      stepped = rw (← c.deref-4.ensures.value) (c.in_ok-steps.ensures.steps c.args.points.items);
      ended = grouped ends_of c.deref-5.ensures.value size c.in_ok-by_end.ensures;
      placed = placed _ _ _ _ _ _ c.deref-3.ensures.value c.deref-2.ensures.value
          c.in_ok-by_bounding_box.ensures c.in_ok-placed_lines.ensures.bounding_boxes;
      measured = rw (← c.deref-7.ensures.value) c.in_ok-axes.ensures;
    }
