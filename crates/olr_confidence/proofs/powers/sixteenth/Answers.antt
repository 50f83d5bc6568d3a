use Rattle.olr_confidence.proofs.Floors.{sixteenth_at_most}
use Rattle.olr_confidence.proofs.powers.sixteenth.Goals as goal

pub returns-clause-at_most : goal.returns-clause-at_most
returns-clause-at_most c = sixteenth_at_most c.args.number
