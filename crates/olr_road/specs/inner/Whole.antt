-- What a map keeps, beside its nodes, lines and bans: the lines by the node at which they start,
-- with their steps, the lines by the node at which they end, the lines by bounding box, and the
-- positions of nodes on axes.
use Rattle.std.specs.Prelude.{◌≡◌, ℕ, ◌≤◌, List, map, length, All}
use Rattle.std.specs.List.{AllZip, concat}
use Rattle.olr_base.specs.declared.degrees.Degrees.{Degrees}
use Rattle.olr_index.specs.declared.window.BoundingBox.{BoundingBox}
use Rattle.olr_road.specs.declared.ban.Ban.{Ban}
use Rattle.olr_road.specs.declared.line_set.Entry.{Entry}
use Rattle.olr_road.specs.declared.step.Step.{Step}
use Rattle.olr_road.specs.declared.node.Node.{Node as NodeByRank}
use Rattle.olr_road.specs.RoadMap.{most_nodes, most_lines}
use Rattle.olr_index.specs.ByNode.{IsGrouping}
use Rattle.olr_road.specs.declared.axes.Axes.{Axes}
use Rattle.olr_road.specs.Axes.{AreDeficits}
use Rattle.olr_road.specs.RoadMap.{RoadMap, IsSoundMap}
use Rattle.olr_road.specs.Steps.{IsStepOf, line_ranks}
use Rattle.olr_road.specs.Entries.{nodes_of, lines_in, HasBoundingBox, IsWithin}

-- the node at which each entry starts
abbrev pub starts_of : List Entry → List ℕ
starts_of entries = map (λ (entry : Entry). entry.line.from) entries

-- the node at which each entry ends
abbrev pub ends_of : List Entry → List ℕ
ends_of entries = map (λ (entry : Entry). entry.line.to) entries

-- the map of these nodes, entries and bans
abbrev pub road_of : List NodeByRank → List Entry → List Degrees → List Ban → RoadMap
road_of nodes entries points bans =
    record { nodes = nodes_of nodes; lines = lines_in points entries; bans = bans }

-- The map of the nodes, the entries and the bans is sound; each entry's points are among those
-- kept; the three tables are of these lines; the steps are those of the lines by the node at which
-- they start, in the same order; and the deficits are those of the lines.
pub record IsWhole (nodes : List NodeByRank) (entries : List Entry) (points : List Degrees)
    (bans : List Ban)
    (by_start : List (List ℕ)) (steps : List Step) (by_end : List (List ℕ)) (bounding_boxes : List BoundingBox)
    (axes : Axes) : Type 0 where
  pub sound : IsSoundMap (road_of nodes entries points bans)
  pub nodes_at_most : length nodes ≤ most_nodes
  pub lines_at_most : length entries ≤ most_lines
  pub within : All (IsWithin points) entries
  pub started : IsGrouping (starts_of entries) (length nodes) by_start
  pub ordered : line_ranks steps ≡ concat by_start
  pub stepped : All (IsStepOf (lines_in points entries)) steps
  pub ended : IsGrouping (ends_of entries) (length nodes) by_end
  pub placed : AllZip (HasBoundingBox points) entries bounding_boxes
  pub measured : AreDeficits entries axes.positions.items axes.deficits
