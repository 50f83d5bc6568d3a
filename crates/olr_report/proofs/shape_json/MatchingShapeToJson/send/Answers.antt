use Rattle.olr_report.proofs.shape_json.MatchingShapeToJson.send.Goals as goal

pub returns-in-Line : goal.returns-in-Line
returns-in-Line g c = rw c.in-Line.is c.send_object.ensures

pub returns-in-Point : goal.returns-in-Point
returns-in-Point g c = rw c.in-Point.is c.send_object-in-Point.ensures
