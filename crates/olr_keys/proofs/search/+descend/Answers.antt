use Rattle.olr_keys.proofs.Common.{◌≡◌, length, arith}
use Rattle.olr_keys.proofs.Searching.{first_completion, appends_deeper, appends_nothing, is_predecessor, some_step, later_completion, empty_completion}
use Rattle.olr_keys.proofs.search.+descend.Goals as goal

pub returns-then-rest-layers-clause-found : goal.returns-then-rest-layers-clause-found
returns-then-rest-layers-clause-found t c =
    appends_nothing _ (empty_completion (omega arith) c.requires.completion)

pub descend-requires : goal.descend-requires
descend-requires t c =
    let p = c.args.rows.now.penalties in
    let same = c.next_step.ensures.same in
    let step = c.in-Some.ensures.step in
    let rank = c.in-Some.step.rank in
    let long : length c.next_step.new.rows.penalties.candidates ≡ length p.candidates = cc in
    let leads = is_predecessor step.step in
    rw c.after.ensures (
      omega arith,
      (
        omega arith,
        (
          rw same leads,
          (
            rw same (later_completion step.step),
            omega arith,
          ),
        ),
      ),
    )

pub returns-in-Some-clause-found : goal.returns-in-Some-clause-found
returns-in-Some-clause-found t c =
    appends_deeper _ _ _ _ _ _ c.push.ensures.items
    (λ found on. first_completion c.in-Some.ensures.step (rw (← c.next_step.ensures.same) on))
    (rw c.after.ensures at c.descend.ensures.found)

pub returns-in_default-clause-found : goal.returns-in_default-clause-found
returns-in_default-clause-found t c =
    absurd (some_step (omega arith) c.requires.completion c.in_default.ensures.step)
