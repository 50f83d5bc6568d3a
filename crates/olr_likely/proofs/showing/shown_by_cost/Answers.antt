use Rattle.std.proofs.lemmas.List.Elements.{All-map}
use Rattle.olr_likely.specs.Showing.{IsShownAt, shown_by_cost}
use Rattle.olr_likely.proofs.showing.shown_by_cost.Goals as goal

pub returns-clause-openers : goal.returns-clause-openers
returns-clause-openers c road layers all = rw c.in_ok-places_by_cost.ensures
    (All-map (IsShownAt road layers) shown_by_cost _ all)
