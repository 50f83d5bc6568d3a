use Rattle.olr_route.proofs.Common.{table_in, ◌+◌, ◌*◌, ◌<◌, drop, length}
use Rattle.olr_route.proofs.Spreading.{AreSpread, EndsUpTo, IsLeft}
use Rattle.olr_route.proofs.shortest.lines_on_shortest_paths.Given as goal

-- the lines on a shortest path are in the groups, but for those that end at this group or at one
-- before it
abbrev pub invariant-groups : goal.invariant-groups
invariant-groups l = record {
  spread : AreSpread l.search (table_in l.search.map.now l.starts) l.target
      (EndsUpTo l.search.map.now l.group.0 l.group.1) l.groups;
  on_map : l.group.1 < length l.search.map.now.nodes;
}

-- but for the rest of the lines that end at this group, and for those that end at one before it
abbrev pub invariant-loop-line : goal.invariant-loop-line
invariant-loop-line l = AreSpread l.search (table_in l.search.map.now l.starts) l.target
    (IsLeft l.search.map.now l.group.0 l.group.1 (drop l.line-index l.line-items)) l.groups

-- the groups are visited in falling order
abbrev pub decreases-groups : goal.decreases-groups
decreases-groups l = l.group.0 * 4294967296 + l.group.1
