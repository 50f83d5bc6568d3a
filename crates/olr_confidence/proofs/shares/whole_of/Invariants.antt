use Rattle.std.proofs.Common.{◌≡◌, ◌+◌, ◌*◌, ◌≤◌, take}
use Rattle.olr_confidence.specs.Shares.{whole_of}
use Rattle.olr_confidence.proofs.shares.whole_of.Given as goal

abbrev pub invariant-loop-below : goal.invariant-loop-below
invariant-loop-below l = (l.whole ≡ whole_of l.fn.none (take l.below-index l.places))
    × (l.whole ≤ 2147483648 * (l.below-index + 1))
