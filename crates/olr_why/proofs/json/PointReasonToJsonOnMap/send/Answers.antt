use Rattle.olr_why.proofs.json.PointReasonToJsonOnMap.send.Goals as goal

pub returns : goal.returns
returns g c = rw (← c.self.view_is) c.send_object.ensures
