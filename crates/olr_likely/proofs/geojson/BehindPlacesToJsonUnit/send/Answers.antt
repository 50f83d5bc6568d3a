use Rattle.std.proofs.Common.{subst}
use Rattle.std.specs.Prelude.{OnOk}
use Rattle.serde_json.specs.Data.{Data}
use Rattle.olr_text.specs.Sent.{Sends}
use Rattle.olr_likely.proofs.Written.{same_behind}
use Rattle.olr_likely.proofs.geojson.BehindPlacesToJsonUnit.send.Goals as goal

pub returns : goal.returns
returns g c =
    let written = g.S.Serializer.written in
    subst (λ (value : Data). OnOk c.send_object.result
    (Sends value (written c.args.out.now) (written c.send_object.new.out)))
    (same_behind c.args.self.now.shown.now c.next_cursor-next.result c.as_ref.result _
    c.next_cursor-next.ensures c.as_ref.ensures.value c.word-verdict.ensures _ _
    c.map_differs_of-map_differs.ensures c.none_of-none.ensures)
    c.send_object.ensures
