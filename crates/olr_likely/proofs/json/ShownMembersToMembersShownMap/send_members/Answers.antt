use Rattle.std.proofs.Common.{subst}
use Rattle.std.specs.Prelude.{OnOk}
use Rattle.serde_json.specs.Data.{Members}
use Rattle.olr_report.specs.ShownMap.{map_shown}
use Rattle.olr_text.specs.Sent.{SendsMembers}
use Rattle.olr_likely.proofs.Written.{same_members}
use Rattle.olr_likely.proofs.json.ShownMembersToMembersShownMap.send_members.Goals as goal

pub returns : goal.returns
returns g c =
    let written = g.S.Serializer.written in
    subst (λ (members : Members). OnOk c.send_members.result
    (SendsMembers members (written c.args.out.now) (written c.send_members.new.out)))
    (same_members c.args.self.now.shown.now c.next_cursor-next.result c.as_ref.result _
    c.next_cursor-next.ensures c.as_ref.ensures.value c.word-verdict.ensures _ _
    c.map_differs_of-map_differs.ensures c.none_of-none.ensures (map_shown c.args.on.now))
    c.send_members.ensures
