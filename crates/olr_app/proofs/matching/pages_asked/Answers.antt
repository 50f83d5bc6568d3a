use Rattle.olr_app.proofs.Common.{AreAnswers, IsPosition, KeyValue, ArePages, List, Err, ap, refl, subst, sym}
use Rattle.olr_keys.specs.AnswersOf.{answers_of}
use Rattle.olr_app.proofs.PagesOf.{not_here, page_fault}
use Rattle.olr_app.proofs.Single.{exit}
use Rattle.olr_app.proofs.matching.pages_asked.Goals as goal

pub returns-in_err-page-clause-fault : goal.returns-in_err-page-clause-fault
returns-in_err-page-clause-fault c =
    let layers = c.args.layers.now in
    let start = c.args.start.now in
    let list : List KeyValue = answers_of c.in_ok-finder.finder.penalties in
    let answers : AreAnswers layers.penalties list =
    subst (λ penalties. AreAnswers penalties list) c.table.ensures
    c.in_ok-finder.ensures.answers in
    rw (exit c.from_residual-in_err-page.ensures.1)
    (page_fault (ArePages c.args.asked.now layers start) c.in_err-page.field-0.0
    (λ same.
    let never = not_here layers.penalties list start answers
    (λ here. c.in_err-page.ensures.not_here.0 (ap Err same)
    (subst (λ after. IsPosition list after) (sym c.key_of.ensures) here)) in
    (refl, never.0, never.1, never.2)))
