use Rattle.std.proofs.Common.{◌∙◌, arith}
use Rattle.olr_keys.proofs.Searching.{none_more, none_at_all}
use Rattle.olr_keys.proofs.search.next_step.Goals as goal

pub returns-in-Some-clause-step : goal.returns-in-Some-clause-step
returns-in-Some-clause-step c = record {
  greater = omega arith;
  step = rw c.loop-index.invariant.0 at c.in-Some.ensures.step;
  first = λ other less later before. c.loop-index.invariant.2 other less later (omega arith);
}

pub loop-index-preserved : goal.loop-index-preserved
loop-index-preserved c = (
  c.test.ensures.same ∙ c.loop-index.invariant.0,
  omega arith,
  none_more _ _ _ _ c.loop-index.invariant.2
      (rw c.loop-index.invariant.0 at c.in_default.ensures.step),
  omega arith,
)

pub returns-clause-step : goal.returns-clause-step
returns-clause-step c =
    none_at_all _ _ _ (omega arith) c.loop-index.invariant.2
