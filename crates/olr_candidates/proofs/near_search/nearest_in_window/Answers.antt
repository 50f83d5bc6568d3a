use Rattle.olr_candidates.proofs.Common.{◌++◌, ◌∷◌, [], append_assoc, HoldAllWithin}
use Rattle.olr_candidates.proofs.NearestLines.{none_nearest}
use Rattle.olr_candidates.proofs.SeenLines.{not_seen}
use Rattle.olr_candidates.proofs.near_search.nearest_in_window.Goals as goal

pub loop-rank-init : goal.loop-rank-init
loop-rank-init c = (
  [],
  rw c.into_iter-rank-iterator.ensures.into_iter_gives c.lines_within-rank-items.ensures,
  rw c.new-nearest.ensures.items (none_nearest _ _ _),
)

pub loop-rank-preserved : goal.loop-rank-preserved
loop-rank-preserved c =
    let seen = c.loop-rank.invariant.0 in
    let cover : HoldAllWithin c.args.query.now c.args.map.now.lines c.args.radius
    (seen ++ c.in-Some.rank ∷ c.next.new.self) =
    rw (← c.in-Some.ensures.steps) c.loop-rank.invariant.1 in (
      seen ++ c.in-Some.rank ∷ [],
      rw append_assoc cover,
      c.in_ok-add_near.ensures seen c.loop-rank.invariant.2 (not_seen _ _ _ cover.once),
    )
