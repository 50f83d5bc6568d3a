use Rattle.olr_detail.proofs.json.CandidateDetailToJsonShownMap.send.Goals as goal

pub returns : goal.returns
returns g c = rw (c.shown_id.ensures, c.spot_of-spot.ensures) at c.send_object.ensures
