use Rattle.std.proofs.lemmas.Result.{err_from_is_err_and}
use Rattle.olr_words.proofs.Faults.{not_named, not_taken, not_values, understood_by, weaker}
use Rattle.olr_words.proofs.record.understood.Goals as goal

pub returns-in_default-clause-refused : goal.returns-in_default-clause-refused
returns-in_default-clause-refused c = weaker
    (λ _. not_named _ _ c.name_in-name.ensures c.in_default.ensures.options) _ c.words_fault.ensures

pub returns-in_err-found-clause-refused : goal.returns-in_err-found-clause-refused
returns-in_err-found-clause-refused c =
    let p = err_from_is_err_and c.from_residual.result
    c.from_residual.ensures.1 in
    rw (p.1, p.2) (weaker (not_taken _ _ _ _ c.in-Some.ensures.name c.name_in-name.ensures
    c.in-Some.ensures.options) _ c.in_err-found.ensures.refused)

pub returns-in_err-check_values-clause-refused : goal.returns-in_err-check_values-clause-refused
returns-in_err-check_values-clause-refused c =
    let p = err_from_is_err_and c.from_residual-in_err-check_values.result
    c.from_residual-in_err-check_values.ensures.1 in
    rw (p.1, p.2) (weaker (not_values _ _ _ _ c.in-Some.ensures.name c.name_in-name.ensures
    c.in-Some.ensures.options _ c.in_ok-found.ensures.found) _ c.in_err-check_values.ensures.wrong)

pub returns-clause-found : goal.returns-clause-found
returns-clause-found c = understood_by _ _ _ _ c.in-Some.ensures.name c.name_in-name.ensures
    c.in-Some.ensures.options _ c.in_ok-found.ensures.found c.in_ok-check_values.ensures.right
