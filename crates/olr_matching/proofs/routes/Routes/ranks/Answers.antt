use Rattle.olr_matching.proofs.Common.{AreLayersOn, RoutesValue, ap, subst, KeyValue}
use Rattle.olr_matching.proofs.Keys.{are_ranks}
use Rattle.olr_matching.proofs.routes.Routes.ranks.Goals as goal

pub returns-clause-are : goal.returns-clause-are
returns-clause-are c =
    let road = c.self.inside.map.now in
    rw (c.as_slice.ensures.value, ap (λ (key : KeyValue). key.ranks) c.key.view_is)
    (are_ranks road _ _ _ (subst (λ (routes : RoutesValue). AreLayersOn road routes.layers)
    c.self.view_is c.self.invariant.sound) c.requires)
