use Rattle.olr_why.proofs.Common.{◌≡◌, long_of, short_of}
use Rattle.olr_why.proofs.json.PairLengthToJsonLegReason.send.Goals as goal

pub returns : goal.returns
returns g c =
    let leg = c.args.leg.now in
    let length = c.args.self.now.length in
    let long : c.long.result ≡ long_of leg.to length = rw (← c.leg.view_is) c.long.ensures in
    let short : c.short.result ≡ short_of leg.from length = rw (← c.leg.view_is) c.short.ensures in
    rw (long, short) at c.send_object.ensures
