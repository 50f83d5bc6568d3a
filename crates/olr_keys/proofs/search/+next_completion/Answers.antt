use Rattle.olr_keys.proofs.Common.{arith}
use Rattle.olr_keys.proofs.Following.{own_inside, own_layer, found_deeper, above_found, deeper_probes}
use Rattle.olr_keys.proofs.Searching.{popped_back}
use Rattle.olr_keys.proofs.search.+next_completion.Goals as goal

pub returns-then-next_completion-clause-found : goal.returns-then-next_completion-clause-found
returns-then-next_completion-clause-found t c =
    found_deeper _ _ _ _ c.in-Some.ensures.cases.0 c.requires.completion c.in-Some-test.ensures.step
    _ c.test.ensures.same c.push.ensures.items
    (rw c.after.ensures at c.if-next_completion.ensures.found)

pub returns-then-next_completion-clause-probes : goal.returns-then-next_completion-clause-probes
returns-then-next_completion-clause-probes t c =
    let cases = c.in-Some.ensures.cases.0 in
    let within = own_inside _ _ _ _ cases c.requires.completion in
    let inside = own_layer _ _ _ _ cases c.requires.completion in
    deeper_probes _ inside within.0 within.1 _ c.test.ensures.same (omega arith)
    (rw c.after.ensures at c.if-next_completion.ensures.probes)

pub returns-clause-found : goal.returns-clause-found
returns-clause-found t c =
    let same = c.test.ensures.same in
    above_found _ _ _ _ c.in-Some.ensures.cases.0 c.requires.completion c.in-Some-test.ensures.step
    _ _ same (cc) (popped_back _ _ _ c.push.ensures.items c.if-next_completion.ensures.found.1
    c.pop.ensures.rest) (rw c.after.ensures at c.if-next_completion.ensures.found.0)
    c.first_above.ensures.found
