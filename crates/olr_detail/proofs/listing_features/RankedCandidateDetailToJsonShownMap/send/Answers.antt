use Rattle.std.proofs.Common.{subst}
use Rattle.std.specs.Prelude.{OnOk}
use Rattle.serde_json.specs.Data.{Data}
use Rattle.olr_report.specs.ShownMap.{map_shown}
use Rattle.olr_text.specs.Sent.{Sends}
use Rattle.olr_detail.proofs.Features.{properties_are}
use Rattle.olr_detail.proofs.listing_features.RankedCandidateDetailToJsonShownMap.send.Goals as goal

pub returns : goal.returns
returns g c =
    let written = g.S.Serializer.written in
    subst (λ (value : Data). OnOk c.send_object.result
    (Sends value (written c.args.out.now) (written c.send_object.new.out)))
    (properties_are (map_shown c.args.on.now) c.args.self.now.point c.args.self.now.rank
    c.args.self.now.candidate.now _ _ c.shown_id.ensures c.spot_of-spot.ensures)
    c.send_object.ensures
