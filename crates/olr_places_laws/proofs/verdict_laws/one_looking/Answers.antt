use Rattle.olr_places_laws.proofs.OneLooking.{one_looking}
use Rattle.olr_places_laws.proofs.verdict_laws.one_looking.Goals as goal

pub returns : goal.returns
returns c = one_looking c.one_entry.ensures.entry
