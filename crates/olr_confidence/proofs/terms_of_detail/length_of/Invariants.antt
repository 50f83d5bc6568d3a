use Rattle.std.proofs.Common.{◌≡◌, ◌*◌, ◌≤◌, take}
use Rattle.olr_confidence.specs.Terms.{length_of}
use Rattle.olr_confidence.proofs.terms_of_detail.length_of.Given as goal

abbrev pub invariant-loop-leg : goal.invariant-loop-leg
invariant-loop-leg l = (l.sum ≡ length_of (take l.leg-index l.legs))
    × (l.sum ≤ 18446744073709551616 * l.leg-index)
