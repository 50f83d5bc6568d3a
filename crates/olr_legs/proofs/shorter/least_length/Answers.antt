use Rattle.std.proofs.Common.{[]}
use Rattle.std.proofs.lemmas.List.Elements.{All-head}
use Rattle.olr_road.specs.declared.place.Place.{Place}
use Rattle.olr_route.specs.Reach.{Covers}
use Rattle.olr_legs.proofs.shorter.least_length.Goals as goal

pub length_to-requires-clause-covers : goal.length_to-requires-clause-covers
length_to-requires-clause-covers c =
    All-head (λ (target : Place). Covers c.in_ok-reach.reach target.line) c.args.to []
    c.in_ok-reach.ensures.covers
