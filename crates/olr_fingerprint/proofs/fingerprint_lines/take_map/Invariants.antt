use Rattle.std.proofs.Common.{take}
use Rattle.std.specs.List.{concat}
use Rattle.olr_road.specs.Canonical.{canonical_rows}
use Rattle.olr_fingerprint.specs.Digest.{Extends}
use Rattle.olr_fingerprint.proofs.fingerprint_lines.take_map.Given as goal

-- the rows so far are taken in
abbrev pub invariant-loop-number : goal.invariant-loop-number
invariant-loop-number l = Extends l.initial.hasher l.hasher
    (concat (take l.number (canonical_rows l.map)))
