use Rattle.olr_report.proofs.Common.{◌≡◌, ◌+◌, take, sum_by, piece_length}
use Rattle.olr_report.proofs.conditions.have_length.Given as goal

abbrev pub invariant-loop-piece : goal.invariant-loop-piece
invariant-loop-piece l = l.left + sum_by piece_length (take l.piece-index l.pieces) ≡ l.length
