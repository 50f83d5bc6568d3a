use Rattle.olr_candidates.proofs.Common.{NearLine, ◌≡◌, length, All, ◌≤◌, ◌*◌, List, rules, refl, subst}
use Rattle.olr_candidates.proofs.NearestLines.{nearest_within}
use Rattle.olr_candidates.proofs.near_search.search_nearest.Goals as goal

pub returns-then-lie_within : goal.returns-then-lie_within
returns-then-lie_within c =
    let full : length c.in_ok-nearest.nearest.items ≡ c.args.count = search rules in
    let inside = subst (λ (l : List NearLine). All
    (λ (near : NearLine). near.distance ≤ 100 * c.loop-radius.radius) l) c.deref.ensures.value
    (c.if-lie_within.ensures.0 refl) in
    nearest_within _ _ _ _ _ c.in_ok-nearest.ensures full inside
