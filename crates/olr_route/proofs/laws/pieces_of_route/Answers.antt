use Rattle.olr_route.proofs.LawsOfWalks.{are_route_pieces}
use Rattle.olr_route.proofs.laws.pieces_of_route.Goals as goal

pub returns : goal.returns
returns c = λ road class from to limit pieces sound start end is. are_route_pieces _ _ _
    _ _ _ sound start end is
