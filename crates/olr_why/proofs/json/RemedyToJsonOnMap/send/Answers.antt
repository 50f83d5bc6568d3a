use Rattle.olr_why.proofs.json.RemedyToJsonOnMap.send.Goals as goal

pub returns : goal.returns
returns g c = rw (c.option_of.ensures, c.value_in.ensures) at c.send_object.ensures
