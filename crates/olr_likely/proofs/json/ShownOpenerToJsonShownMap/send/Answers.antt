use Rattle.olr_likely.proofs.json.ShownOpenerToJsonShownMap.send.Goals as goal

pub returns-in-Some : goal.returns-in-Some
returns-in-Some g c = rw (c.in-Some.is, ← c.location.ensures, ← c.deref.ensures.value) c.send.ensures

pub returns-in-None : goal.returns-in-None
returns-in-None g c = rw (c.in-None.is, ← c.location-in-None.ensures, ← c.deref-in-None.ensures.value) c.send-in-None.ensures
