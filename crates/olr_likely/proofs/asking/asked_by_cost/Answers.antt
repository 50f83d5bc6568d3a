use Rattle.olr_likely.proofs.asking.asked_by_cost.Goals as goal

pub extended-requires-clause-places : goal.extended-requires-clause-places
extended-requires-clause-places c = c.in_ok-found.ensures.openers c.args.map.now c.args.layers.now
    c.in_ok-likely.ensures.openers

pub returns : goal.returns
returns c = record {
  likely = c.in_ok-likely.likely;
  found = c.in_ok-found.found;
  are_likely = c.in_ok-likely.ensures.places;
  are_shown = c.in_ok-found.ensures.shown;
  is_extended = rw (← c.in_ok-found.ensures.chances) c.in_ok-shown.ensures;
}
