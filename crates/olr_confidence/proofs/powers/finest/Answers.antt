use Rattle.olr_confidence.proofs.Floors.{finest_at_most}
use Rattle.olr_confidence.proofs.powers.finest.Goals as goal

pub returns-clause-at_most : goal.returns-clause-at_most
returns-clause-at_most c = finest_at_most c.args.number
