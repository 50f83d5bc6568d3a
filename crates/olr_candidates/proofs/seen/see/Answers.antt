use Rattle.olr_candidates.proofs.Common.{HoldAllWithin, arith, ◌++◌, ◌∷◌, [], subst, append_assoc, append-nil}
use Rattle.olr_candidates.proofs.SeenFrom.{all_seen, none_seen}
use Rattle.olr_candidates.proofs.SeenLines.{not_seen}
use Rattle.olr_candidates.proofs.seen.see.Goals as goal

pub loop-rank-init : goal.loop-rank-init
loop-rank-init c = (
  [],
  rw c.into_iter-rank-iterator.ensures.into_iter_gives c.lines_within-rank-items.ensures,
  rw c.new-seen.ensures.items (none_seen _ _ _),
  rw c.new-seen.ensures.items (omega arith),
)

pub loop-rank-preserved : goal.loop-rank-preserved
loop-rank-preserved c =
    let (ranks, covers, are, at_most) = c.loop-rank.invariant in
    let cover : HoldAllWithin c.args.query.now c.args.map.now.lines c.args.reach
    (ranks ++ c.in-Some.rank ∷ c.next.new.self) = rw (← c.in-Some.ensures.steps) covers in (
      ranks ++ c.in-Some.rank ∷ [],
      rw append_assoc cover,
      c.in_ok-add_seen.ensures.seen ranks are (not_seen _ _ _ cover.once),
      omega (arith, c.in_ok-add_seen.ensures.at_most),
    )

pub returns-clause-seen : goal.returns-clause-seen
returns-clause-seen c =
    let (ranks, covers, are, at_most) = c.loop-rank.invariant in
    all_seen _ _ _ ranks _
    (subst (λ all. HoldAllWithin c.args.query.now c.args.map.now.lines c.args.reach all)
    (cc (c.in-None.ensures.steps.0, append-nil ranks)) covers) are
