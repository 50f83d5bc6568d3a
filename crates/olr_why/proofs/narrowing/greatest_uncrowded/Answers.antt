use Rattle.std.proofs.Common.{arith}
use Rattle.olr_why.proofs.Halving.{all_crowded, crowded_at, greatest_in}
use Rattle.olr_why.proofs.narrowing.greatest_uncrowded.Goals as goal

pub returns-then-branch : goal.returns-then-branch
returns-then-branch c = all_crowded c.requires c.one_candidate_a_line.ensures
    (rw (← c.least-low.ensures) (rw c.if-branch.true at c.in_ok-is_crowded_with.ensures))

pub returns-in_ok-value-in-Some : goal.returns-in_ok-value-in-Some
returns-in_ok-value-in-Some c =
    let found = c.in_ok-value-in-Some.ensures in
    greatest_in c.requires c.one_candidate_a_line.ensures
    (rw c.if-branch.false at c.in_ok-is_crowded_with.ensures)
    (crowded_at c.requires c.one_candidate_a_line.ensures
    (rw c.in-Some.is at c.in_ok-around.ensures.crowded))
    (rw c.in-Some.is at c.in_ok-around.ensures.at_most)
    found.low found.high found.uncrowded found.crowded

pub returns-in_ok-value-in-None : goal.returns-in_ok-value-in-None
returns-in_ok-value-in-None c =
    let found = c.in_ok-value-in-None.ensures in
    greatest_in c.requires c.one_candidate_a_line.ensures
    (rw c.if-branch.false at c.in_ok-is_crowded_with.ensures)
    (crowded_at c.requires c.one_candidate_a_line.ensures
    (λ less. absurd (omega (arith, less, c.value-given.ensures))))
    (omega (arith, c.value-given.ensures)) found.low found.high found.uncrowded found.crowded
