use Rattle.std.proofs.Common.{pos, ◌+ℤ◌, to_z, of_z, w64}
use Rattle.olr_confidence.proofs.Positive.{positive}
use Rattle.olr_confidence.proofs.probable.by_losses.Goals as goal

pub probabilities_of-requires-clause-greatest : goal.probabilities_of-requires-clause-greatest
probabilities_of-requires-clause-greatest c = positive
    (to_z w64 (of_z w64 c.args.none) +ℤ pos c.least_of-least.result) c.args.losses.now
    c.in_ok-below.below.items c.deref.result.now c.least_of-least.result c.ahead_and_behind-ahead.result.0
    c.ahead_and_behind-ahead.result.1 c.requires.is_there c.least_of-least.ensures.least
    c.ahead_and_behind-ahead.ensures.above c.ahead_and_behind-ahead.ensures.below c.in_ok-below.ensures.below
    c.deref.ensures.value
