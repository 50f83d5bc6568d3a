use Rattle.std.proofs.Common.{ℕ, ◌<◌}
use Rattle.olr_legs.specs.Shorter.{IsShorterUnder}
use Rattle.olr_legs.proofs.shorter.first_shorter.Given as goal

-- under none of the classes so far it is markedly shorter
abbrev pub invariant-loop-class : goal.invariant-loop-class
invariant-loop-class l = (class by : ℕ) → l.limit < class → class < l.class
    → IsShorterUnder l.map l.from l.to l.length class by → ⊥
