use Rattle.std.proofs.Common.{◌∷◌, [], ◌++◌, ◌≡◌, length, arith}
use Rattle.olr_candidates.proofs.NearestLines as nearest
use Rattle.olr_candidates.proofs.NearestLines.{next_rank}
use Rattle.olr_candidates.proofs.near_search.nearest_of_all.Goals as goal

pub loop-rank-preserved : goal.loop-rank-preserved
loop-rank-preserved c =
    let (seen, first, so_far) = c.loop-rank.invariant in (
      seen ++ c.loop-rank.rank ∷ [],
      next_rank _ _ first,
      c.in_ok-add_near.ensures seen so_far (λ is. omega (arith, first.only c.loop-rank.rank is)),
    )

pub returns : goal.returns
returns c =
    let (seen, first, so_far) = c.loop-rank.invariant in
    let all : c.loop-rank.rank ≡ length c.args.map.now.lines = omega arith in
    nearest.nearest_of_all _ _ _ _ _ so_far (omega arith)
    (λ rank inside. first.each rank (omega arith))
