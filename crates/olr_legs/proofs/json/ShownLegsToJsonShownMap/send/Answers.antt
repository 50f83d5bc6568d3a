use Rattle.std.proofs.Common.{subst}
use Rattle.std.specs.Prelude.{OnOk, codes}
use Rattle.serde_json.specs.Data.{Data, member, no_members, object}
use Rattle.olr_text.specs.JsonValues.{array_of}
use Rattle.olr_text.specs.Sent.{Sends}
use Rattle.olr_legs.specs.Json.{leg_object}
use Rattle.olr_legs.proofs.Cursors.{same_cursor}
use Rattle.olr_legs.proofs.json.ShownLegsToJsonShownMap.send.Goals as goal

pub returns : goal.returns
returns g c =
    let written = g.S.Serializer.written in
    subst (λ (cursor : Data). OnOk c.send_object.result (Sends (object (member (codes "legs")
    (array_of (leg_object c.args.on.now.map.now) c.args.self.now.legs.now)
    (member (codes "matching") cursor no_members)))
    (written c.args.out.now) (written c.send_object.new.out)))
    (same_cursor c.cursor_of.result c.args.self.now.matching c.cursor_of.ensures)
    c.send_object.ensures
