use Rattle.olr_route.proofs.LawsOfWalks.{no_beginning}
use Rattle.olr_route.proofs.laws.no_beginning_of_another.Goals as goal

pub returns : goal.returns
returns c = no_beginning
