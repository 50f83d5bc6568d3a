use Rattle.olr_route.proofs.LawsOfWalks.{route_once}
use Rattle.olr_route.proofs.laws.one_route.Goals as goal

pub returns : goal.returns
returns c = λ road class from to a b sound is other. route_once road sound class from to a b is
    other
