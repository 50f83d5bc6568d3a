use Rattle.std.proofs.Common.{◌≡◌, map, take}
use Rattle.olr_confidence.specs.Shares.{millionths_of}
use Rattle.olr_confidence.proofs.shares.all_millionths.Given as goal

abbrev pub invariant-loop-below : goal.invariant-loop-below
invariant-loop-below l =
    l.shares.items ≡ map (millionths_of l.whole) (take l.below-index l.places)
