use Rattle.olr_matching.proofs.LegLaws.{legs_are, penalties_are}
use Rattle.olr_matching.proofs.layers_laws.table_of_layers.Goals as goal

pub returns : goal.returns
returns c = record { candidates = penalties_are; legs = legs_are }
