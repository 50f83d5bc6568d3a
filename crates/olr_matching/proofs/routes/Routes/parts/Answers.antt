use Rattle.olr_matching.proofs.Common.{arith, subst, sym, ◌∙◌, AreCandidatesAt, RoutesValue}
use Rattle.olr_matching.proofs.Legs.{are_parts, push_leg}
use Rattle.olr_matching.proofs.routes.Routes.parts.Goals as goal

pub loop-layer-preserved : goal.loop-layer-preserved
loop-layer-preserved c =
    let at = c.loop-layer.self in
    let leg = c.in_ok-leg.field-0 in
    record {
      count = omega (arith, c.loop-layer.invariant.count, c.in_ok-push.ensures.len);
      each = rw c.leg.ensures.same (push_leg _ _ _ _ _ _
          _ c.loop-layer.invariant.count c.in_ok-push.ensures.items c.loop-layer.invariant.each
          (rw c.pair_at.ensures.is at c.in_ok-leg.ensures.leg));
      same = c.leg.ensures.same ∙ c.loop-layer.invariant.same;
    }

pub returns-clause-matched : goal.returns-clause-matched
returns-clause-matched c =
    let loop = c.loop-layer.invariant in
    let ranks = c.ranks-ranks.result.now in
    let At : RoutesValue → Type 0 = λ routes. AreCandidatesAt routes.layers.candidates ranks
    c.candidates_of.result.items in
    are_parts _ _ _ _ _ c.ranks-ranks.ensures.is
    (subst At (c.self-2.view_is ∙ loop.same) c.candidates_of.ensures) (omega arith)
    (rw (sym loop.same) loop.each)
