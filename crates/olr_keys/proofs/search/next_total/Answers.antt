use Rattle.olr_keys.proofs.Common.{◌∙◌, arith, IsTotal}
use Rattle.olr_keys.proofs.NextKeys.{no_more_totals, no_totals_at_all}
use Rattle.olr_keys.proofs.search.next_total.Goals as goal

pub loop-number-preserved : goal.loop-number-preserved
loop-number-preserved c =
    let none : IsTotal c.args.rows.now.penalties c.loop-number.number → ⊥ =
    λ is. let yes = c.total.ensures.total.1 (rw c.loop-number.invariant.0 is) in absurd cc in (
      c.total.ensures.same ∙ c.loop-number.invariant.0,
      omega arith,
      no_more_totals _ _ c.loop-number.invariant.2 none,
      omega arith,
    )

pub returns-clause-total : goal.returns-clause-total
returns-clause-total c = no_totals_at_all _ (omega arith) c.loop-number.invariant.2
