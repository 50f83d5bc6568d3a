use Rattle.olr_report.proofs.Common.{drop, slice_range, steps_of}
use Rattle.olr_report.proofs.Parts.{IsPartSoFar}
use Rattle.olr_report.proofs.trimming.trim.Given as goal

abbrev pub invariant-loop-piece : goal.invariant-loop-piece
invariant-loop-piece l = IsPartSoFar (slice_range (steps_of l.pieces) l.fn.start l.fn.end)
    l.part.items (drop l.piece-index l.pieces) l.skip l.left
