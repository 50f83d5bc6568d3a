use Rattle.olr_index.proofs.Common.{◌-◌, length, sym, arith, get_or_from_slice_get}
use Rattle.olr_index.proofs.Finding.{rises}
use Rattle.olr_index.proofs.bucketing.greatest.Goals as goal

pub returns-clause-at_least : goal.returns-clause-at_least
returns-clause-at_least c = λ k inside.
    let keys = c.args.keys.now in
    let last = length keys - 1 in
    rw (← (get_or_from_slice_get keys last c.in-Some.field-0.now 0 (sym c.in-Some.ensures.value)))
    (rises _ c.requires.rise k _ (omega arith) (omega arith))
