use Rattle.olr_candidates.proofs.NearestLines.{nearest_more, nearest_still}
use Rattle.olr_candidates.proofs.near_search.add_near.Goals as goal

pub returns-in_default : goal.returns-in_default
returns-in_default c seen so_far unseen = nearest_still _ _ _ _ _ _ so_far
    (rw (← c.deref.ensures.value) c.in_default.ensures)

pub returns : goal.returns
returns c seen so_far unseen = nearest_more _ _ c.one_projection.ensures _ _ _ _
    _ so_far unseen c.in-Some.ensures _ c.in_ok-keep.ensures
