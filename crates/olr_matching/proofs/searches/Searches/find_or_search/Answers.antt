use Rattle.olr_matching.proofs.searches.Searches.find_or_search.Goals as goal

pub returns-clause-searches : goal.returns-clause-searches
returns-clause-searches c = c.keep.ensures.searches c.args.leg.now.map.now c.requires.searches
    c.in_ok-reach.ensures.held
