use Rattle.olr_legs.proofs.Trying.{IsTrying}
use Rattle.olr_legs.proofs.departing.first_departing.Given as goal

-- the lines so far were tried
abbrev pub invariant-loop-next : goal.invariant-loop-next
invariant-loop-next l = IsTrying l.search l.labels l.lines l.next-index l.best
