use Rattle.olr_binary.proofs.showing_json.ReferenceToJsonUnit.send.Goals as goal

pub returns-in-Line : goal.returns-in-Line
returns-in-Line g c = rw c.in-Line.is c.send_object.ensures

pub returns-in-PointAlong : goal.returns-in-PointAlong
returns-in-PointAlong g c = rw c.in-PointAlong.is c.send_object-in-PointAlong.ensures
