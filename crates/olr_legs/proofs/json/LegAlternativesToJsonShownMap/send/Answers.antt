use Rattle.olr_legs.proofs.json.LegAlternativesToJsonShownMap.send.Goals as goal

pub returns : goal.returns
returns g c = rw c.is_cut.ensures at c.send_object.ensures
