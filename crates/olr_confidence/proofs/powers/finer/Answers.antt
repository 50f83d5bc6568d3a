use Rattle.olr_confidence.proofs.Floors.{finer_at_most}
use Rattle.olr_confidence.proofs.powers.finer.Goals as goal

pub returns-clause-at_most : goal.returns-clause-at_most
returns-clause-at_most c = finer_at_most c.args.number
