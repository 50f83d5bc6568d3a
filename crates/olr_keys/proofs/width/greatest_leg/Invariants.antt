use Rattle.olr_keys.proofs.Common.{◌≡◌, take, greatest_leg}
use Rattle.olr_keys.proofs.width.greatest_leg.Given as goal

abbrev pub invariant-loop-leg : goal.invariant-loop-leg
invariant-loop-leg l = l.most ≡ greatest_leg (take l.leg-index l.legs)
