use Rattle.olr_app.proofs.Common.{◌≡◌, List, ℕ, ◌++◌, length, Appends, Hands}
use Rattle.olr_app.proofs.writing.put_whole.Given as goal

-- what was taken so far, by which calls, and what is left
abbrev pub invariant-loop-rest : goal.invariant-loop-rest
invariant-loop-rest g l = (front : List ℕ) × (l.bytes ≡ front ++ l.rest)
    × Appends (g.O.Sink.taken l.initial.out) (g.O.Sink.taken l.out) front
    × (g.O.Sink.failed l.out ≡ g.O.Sink.failed l.initial.out)
    × Hands g.O.Sink.put_gives l.initial.out l.bytes l.out l.rest

abbrev pub decreases-loop-rest : goal.decreases-loop-rest
decreases-loop-rest g l = length l.rest
