use Rattle.std.proofs.Common.{ℕ, [], arith, below_more, Option, Any, IsSome, slice_index_or}
use Rattle.olr_why.proofs.Lacking.{no_pair, some_pair}
use Rattle.olr_why.proofs.Lists.{not_both}
use Rattle.olr_why.proofs.Places.{points_count}
use Rattle.olr_why.proofs.verdicts.first_without_pair.Goals as goal

pub returns-then-not-has_pair-clause-first : goal.returns-then-not-has_pair-clause-first
returns-then-not-has_pair-clause-first c = λ road are.
    let count = points_count are c.table.ensures c.layers-point-end.ensures.count in
    record {
      holds = no_pair are c.loop-point.point (omega (arith, count))
          (λ some. not_both (c.has_pair.ensures.1 (rw c.lengths.ensures some))
          c.if-not-has_pair.true);
      before = λ lesser less. some_pair are lesser (c.loop-point.invariant lesser less);
    }

pub loop-point-preserved : goal.loop-point-preserved
loop-point-preserved c = below_more (λ k. Any (λ (length : Option ℕ). IsSome length)
    (slice_index_or c.args.layers.now.lengths k [])) c.loop-point.point
    c.loop-point.invariant (rw (← c.lengths.ensures) (c.has_pair.ensures.0 c.if-not-has_pair.false))

pub returns-clause-first : goal.returns-clause-first
returns-clause-first c = λ road are.
    let count = points_count are c.table.ensures c.layers-point-end.ensures.count in
    λ index none. some_pair are index (c.loop-point.invariant index (omega (arith, count, none.0)))
    none
