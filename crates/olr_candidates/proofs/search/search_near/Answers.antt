use Rattle.olr_candidates.proofs.Common.{HoldAllWithin, ◌++◌, ◌∷◌, [], subst, arith, append_assoc, append-nil}
use Rattle.olr_candidates.proofs.SeenLines.{not_seen}
use Rattle.olr_candidates.proofs.Lists.{none_found, found_within}
use Rattle.olr_candidates.proofs.search.search_near.Goals as goal

pub loop-rank-init : goal.loop-rank-init
loop-rank-init c = (
  [],
  rw c.into_iter-rank-iterator.ensures.into_iter_gives c.lines_within-rank-items.ensures,
  rw c.new-list.ensures (none_found _ _),
)

pub returns-in_err-add_if : goal.returns-in_err-add_if
returns-in_err-add_if c =
    let (seen, covers, found) = c.loop-rank.invariant in
    let cover : HoldAllWithin c.args.query.now c.args.map.now.lines c.args.query.now.tolerances.radius
    (seen ++ c.in-Some.rank ∷ c.next.new.self) = rw (← c.in-Some.ensures.steps) covers in
    rw c.from_residual.ensures (c.in_err-add_if.ensures _ _ seen c.in-Some.rank found
    (not_seen _ _ _ cover.once) c.candidate_within-candidate.ensures)

pub loop-rank-preserved : goal.loop-rank-preserved
loop-rank-preserved c =
    let (seen, covers, found) = c.loop-rank.invariant in
    let cover : HoldAllWithin c.args.query.now c.args.map.now.lines c.args.query.now.tolerances.radius
    (seen ++ c.in-Some.rank ∷ c.next.new.self) = rw (← c.in-Some.ensures.steps) covers in (
      seen ++ c.in-Some.rank ∷ [],
      rw append_assoc cover,
      c.in_ok-add_if.ensures _ _ seen c.in-Some.rank found (not_seen _ _ _ cover.once)
          c.candidate_within-candidate.ensures,
    )

pub returns : goal.returns
returns c =
    let (seen, covers, found) = c.loop-rank.invariant in
    found_within _ _ _ seen _ (omega arith)
    (subst (λ ranks. HoldAllWithin c.args.query.now c.args.map.now.lines
    c.args.query.now.tolerances.radius ranks) (cc (c.in-None.ensures.steps.0, append-nil seen))
    covers) found
