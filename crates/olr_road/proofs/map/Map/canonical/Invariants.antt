use Rattle.olr_road.proofs.Common.{canonical_rows, ◌≡◌, take, string_bytes, concat}
use Rattle.olr_road.proofs.map.Map.canonical.Given as goal

-- the text is that of the rows so far
abbrev pub invariant-loop-number : goal.invariant-loop-number
invariant-loop-number l = string_bytes l.text ≡ concat (take l.number (canonical_rows l.self))
