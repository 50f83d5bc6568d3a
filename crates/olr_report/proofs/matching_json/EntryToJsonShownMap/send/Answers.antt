use Rattle.olr_report.proofs.matching_json.EntryToJsonShownMap.send.Goals as goal

pub returns : goal.returns
returns g c = rw c.deref.ensures.value at c.send.ensures
