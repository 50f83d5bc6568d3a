use Rattle.std.proofs.Common.{◌≡◌, map, take}
use Rattle.olr_lines.specs.declared.lines_on.RankedLine.{RankedLine}
use Rattle.olr_lines.proofs.json.ranked.Given as goal

abbrev pub invariant-loop-rank : goal.invariant-loop-rank
invariant-loop-rank l =
    map (λ (line : RankedLine). line.rank) l.lines.items ≡ take l.rank-index l.ranks
