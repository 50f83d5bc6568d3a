use Rattle.std.proofs.Common.{subst, ap, ◌∙◌}
use Rattle.std.specs.Prelude.{OnOk}
use Rattle.serde_json.specs.Data.{Data}
use Rattle.olr_report.specs.Location.{first_length}
use Rattle.olr_report.specs.ShownMap.{map_shown}
use Rattle.olr_text.specs.Sent.{Sends}
use Rattle.olr_detail.proofs.Written.{same_matching}
use Rattle.olr_detail.proofs.json.ShownInDetailToJsonShownMap.send.Goals as goal

pub returns-in-Line : goal.returns-in-Line
returns-in-Line g c =
    let written = g.S.Serializer.written in
    subst (λ (value : Data). OnOk c.send_object.result
    (Sends value (written c.args.out.now) (written c.send_object.new.out)))
    (same_matching (map_shown c.args.on.now) c.args.self.now.part c.args.self.now.matched.now
    c.args.self.now.route.now _ _ _ _ _ _ _ _ _ _ _ _ c.write-cursor.ensures.cursor.same c.word_drawn-part.ensures
    (c.first_length-length.ensures ∙ ap first_length c.deref.ensures.value) c.in-Ok.ensures
    c.spots_if_asked-spot.ensures
    c.key.view_is c.matched.view_is c.detail.view_is c.in-Line.is)
    c.send_object.ensures

pub returns : goal.returns
returns g c =
    let written = g.S.Serializer.written in
    subst (λ (value : Data). OnOk c.send_object-in-Point.result
    (Sends value (written c.args.out.now) (written c.send_object-in-Point.new.out)))
    (same_matching (map_shown c.args.on.now) c.args.self.now.part c.args.self.now.matched.now
    c.args.self.now.route.now _ _ _ _ _ _ _ _ _ _ _ _ c.write-cursor.ensures.cursor.same c.word_drawn-part.ensures
    (c.first_length-length.ensures ∙ ap first_length c.deref.ensures.value) c.in-Ok.ensures
    c.spots_if_asked-spot.ensures
    c.key.view_is c.matched.view_is c.detail.view_is c.in-Point.is)
    c.send_object-in-Point.ensures
