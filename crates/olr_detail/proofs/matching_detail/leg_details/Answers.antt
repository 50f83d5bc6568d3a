use Rattle.std.proofs.Common.{arith, refl}
use Rattle.std.proofs.lemmas.Option.{slice_get_read}
use Rattle.olr_detail.specs.MatchingDetail.{IsLegDetailAt}
use Rattle.olr_detail.proofs.Pushed.{pushed}
use Rattle.olr_detail.proofs.matching_detail.leg_details.Goals as goal

pub next_of-next-requires : goal.next_of-next-requires
next_of-next-requires c = c.requires c.loop-index.index c.index-legs-index.result
    (slice_get_read c.args.legs.now _ c.loop-index.index c.index-legs-index.result refl
    c.loop-index-test.true c.index-legs-index.is)

pub loop-index-preserved : goal.loop-index-preserved
loop-index-preserved c = pushed
    (IsLegDetailAt c.args.on.now.tolerances c.args.on.now.reference.now)
    c.args.legs.now c.loop-index.details.items c.index-legs-index.result c.detail_of_leg.result
    c.loop-index.index c.loop-index.invariant.0
    (slice_get_read c.args.legs.now _ c.loop-index.index c.index-legs-index.result refl
    c.loop-index-test.true c.index-legs-index.is)
    (record {
      next = c.next_of-next.result;
      leads_on = c.next_of-next.ensures;
      detail_is = c.detail_of_leg.ensures;
    })
    c.loop-index.invariant.1 c.push.new.self.items c.in_ok-push.ensures.items

pub returns : goal.returns
returns c = record {
  count = omega (arith, c.loop-index.invariant.0, c.loop-index.auto.index-end, c.loop-index-test.false);
  each = λ k leg detail at found. c.loop-index.invariant.1 k detail found leg at;
}
