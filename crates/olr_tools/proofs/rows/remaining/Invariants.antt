-- A look at the rows leaves the penalties that they are of.
use Rattle.std.proofs.Common.{◌≡◌}
use Rattle.olr_tools.proofs.rows.remaining.Given as goal

abbrev pub invariant-loop-index : goal.invariant-loop-index
invariant-loop-index l = l.rows.penalties ≡ l.fn.rows.penalties

abbrev pub invariant-loop-rest : goal.invariant-loop-rest
invariant-loop-rest l = l.rows.penalties ≡ l.fn.rows.penalties
