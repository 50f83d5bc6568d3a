use Rattle.std.proofs.Common.{subst}
use Rattle.std.specs.Prelude.{OnOk}
use Rattle.serde_json.specs.Data.{Data}
use Rattle.olr_report.specs.ShownMap.{map_shown}
use Rattle.olr_text.specs.Sent.{Sends}
use Rattle.olr_likely.proofs.Written.{same_place}
use Rattle.olr_likely.proofs.json.DrawnPlaceToJsonShownMap.send.Goals as goal

pub returns : goal.returns
returns g c =
    let written = g.S.Serializer.written in
    subst (λ (value : Data). OnOk c.send_object.result
    (Sends value (written c.args.out.now) (written c.send_object.new.out)))
    (same_place (map_shown c.args.on.now) c.args.self.now.part c.args.self.now.place.now _ _ _ _ _
    c.cost_of-cost.ensures c.word_drawn-part.ensures c.probability_of-probability.ensures
    c.rank_of-rank.ensures c.reasons_of-reasons.ensures)
    c.send_object.ensures
