use Rattle.olr_why.proofs.json.LegReasonToJsonOnMap.send.Goals as goal

pub returns : goal.returns
returns g c = rw (← c.self.view_is) (rw (← c.self.view_is) at c.send_object.ensures)
