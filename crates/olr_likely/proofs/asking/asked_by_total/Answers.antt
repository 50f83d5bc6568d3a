use Rattle.olr_likely.proofs.asking.asked_by_total.Goals as goal

pub extended-requires-clause-places : goal.extended-requires-clause-places
extended-requires-clause-places c = c.in_ok-found.ensures.openers c.args.map.now c.args.layers.now
    c.in_ok-places.ensures.openers
