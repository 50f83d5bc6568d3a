use Rattle.std.proofs.Common.{arith}
use Rattle.olr_confidence.proofs.Halved.{halved_at_most, halved_away}
use Rattle.olr_confidence.proofs.powers.power.Goals as goal

pub returns-else-halvings-lt32-clause-power : goal.returns-else-halvings-lt32-clause-power
returns-else-halvings-lt32-clause-power c = grind (arith, halved_at_most, halved_away)
