use Rattle.olr_places_laws.proofs.Looks.{looks_at_most}
use Rattle.olr_places_laws.proofs.verdict_laws.looks_at_most.Goals as goal

pub returns : goal.returns
returns c = looks_at_most
