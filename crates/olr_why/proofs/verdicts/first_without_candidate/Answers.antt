use borrow.Author.Tests.{eqb-true}
use Rattle.olr_why.proofs.Common.{Candidate, ◌≡◌, List, [], length, sym, ◌∙◌, ap, arith, slice_index_or}
use Rattle.olr_why.proofs.Lacking.{no_candidate, some_candidate}
use Rattle.olr_why.proofs.Places.{points_count}
use Rattle.olr_why.proofs.verdicts.first_without_candidate.Goals as goal

pub returns-then-is_empty-clause-first : goal.returns-then-is_empty-clause-first
returns-then-is_empty-clause-first c = λ road are.
    let count = points_count are c.table.ensures c.layers-point-end.ensures.count in
    let none : length (slice_index_or c.args.layers.now.candidates c.loop-point.point []) ≡ 0 =
    sym (ap (λ (l : List Candidate). length l) c.layer.ensures.layer)
    ∙ eqb-true (length c.layer.result.now) 0 (sym c.is_empty.ensures ∙ c.if-is_empty.true) in
    record {
      holds = no_candidate are c.loop-point.point (omega (arith, count)) none;
      before = λ lesser less. some_candidate are lesser (c.loop-point.invariant lesser less);
    }

pub returns-clause-first : goal.returns-clause-first
returns-clause-first c = λ road are.
    let count = points_count are c.table.ensures c.layers-point-end.ensures.count in
    λ index none. some_candidate are index
    (c.loop-point.invariant index (omega (arith, count, none.0))) none
