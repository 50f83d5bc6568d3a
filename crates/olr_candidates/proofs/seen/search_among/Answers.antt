use Rattle.std.proofs.lemmas.List.{take_all, take_more}
use Rattle.olr_candidates.proofs.Common.{SeenLine, arith, get_or, length, ranks_of, take, ◌<◌, ◌≡◌}
use Rattle.olr_candidates.proofs.Lists.{found_within}
use Rattle.olr_candidates.proofs.SeenFrom.{no_line, not_before, rank_at, ranks_count}
use Rattle.olr_candidates.proofs.seen.search_among.Goals as goal

pub returns-in_err-add_if : goal.returns-in_err-add_if
returns-in_err-add_if c =
    let one : SeenLine = get_or c.args.seen.now c.loop-line.line-index no_line in
    let at = rank_at c.args.seen.now c.loop-line.line-index c.loop-line-test.true in
    rw c.from_residual.ensures (c.in_err-add_if.ensures _ _ _ one.line
    c.loop-line.invariant (not_before _ _ one.line (omega (arith, ranks_count c.args.seen.now)) at
    c.requires.2.covers.once) c.candidate_from-candidate.ensures)

pub loop-line-preserved : goal.loop-line-preserved
loop-line-preserved c =
    let one : SeenLine = get_or c.args.seen.now c.loop-line.line-index no_line in
    let at = rank_at c.args.seen.now c.loop-line.line-index c.loop-line-test.true in
    let within : c.loop-line.line-index < length (ranks_of c.args.seen.now) =
    omega (arith, ranks_count c.args.seen.now) in
    rw (take_more (ranks_of c.args.seen.now) c.loop-line.line-index one.line within, at)
    (c.in_ok-add_if.ensures _ _ _ one.line c.loop-line.invariant
    (not_before _ _ one.line within at c.requires.2.covers.once) c.candidate_from-candidate.ensures)

pub returns : goal.returns
returns c =
    let (reach, at_most, sees) = c.requires in
    let all : take c.loop-line.line-index (ranks_of c.args.seen.now) ≡ ranks_of c.args.seen.now =
    take_all _ _ (omega (arith, ranks_count c.args.seen.now)) in
    found_within c.args.query.now c.args.map.now.lines reach (ranks_of c.args.seen.now)
    c.loop-line.list.items at_most sees.covers (rw all at c.loop-line.invariant)
