use Rattle.std.proofs.Common.{OnOk}
use Rattle.serde_json.specs.Data.{Data}
use Rattle.olr_route.specs.Route.{id_at}
use Rattle.olr_text.specs.Sent.{Sends}
use Rattle.olr_why.specs.Json.{spot_if}
use Rattle.olr_why.specs.Text.{class_at, form_at}
use Rattle.olr_why.proofs.NearLines.{with_spot}
use Rattle.olr_why.proofs.json.NearLineToJsonOnMap.send.Goals as goal

pub returns : goal.returns
returns g c =
    let old = g.S.Serializer.written c.args.out.now in
    let new = g.S.Serializer.written c.send_object.new.out in
    let is_sent : Data → Type 0 = λ value. OnOk c.send_object.result (Sends value old new) in
    let road = c.args.on.now.map.now in
    let near = c.args.self.now in
    with_spot is_sent near _
    (class_at road near.line, form_at road near.line, id_at road near.line) c.spot_if-spot.result
    (spot_if road c.args.on.now.spots near) c.shown_line-class.ensures c.spot_if-spot.ensures
    c.send_object.ensures
