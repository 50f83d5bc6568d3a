use Rattle.olr_app.proofs.Common.{fault_of, sym, ◌∙◌, inl, inr, refl, Ok, Err}
use Rattle.olr_app.proofs.Accepts.{accepted_once}
use Rattle.olr_app.proofs.Single.{exit}
use Rattle.olr_app.specs.Accepting.{AcceptsTexts}
use Rattle.olr_request.specs.Request.{bytes_of}
use Rattle.olr_app.proofs.accepting.accept_texts.Goals as goal

pub returns-in_err-reference-clause-only : goal.returns-in_err-reference-clause-only
returns-in_err-reference-clause-only c =
    let text = c.args.text.now in
    let cursor = bytes_of c.args.cursor in
    let why = c.in_err-reference.field-0.0 in
    let is : AcceptsTexts text cursor (Err (fault_of why)) =
    inl (why, c.in_err-reference.ensures.outcome, refl) in
    λ other its. accepted_once c.one_outcome.ensures c.one_cursor.ensures text cursor other
    (Err (fault_of why)) its is ∙ sym (exit c.from_residual.ensures.1)

pub returns-in_err-start-clause-only : goal.returns-in_err-start-clause-only
returns-in_err-start-clause-only c =
    let text = c.args.text.now in
    let cursor = bytes_of c.args.cursor in
    let why = c.in_err-start.field-0.0 in
    let is : AcceptsTexts text cursor (Err why) =
    inr (c.in_ok-reference.reference, c.in_ok-reference.ensures.outcome, c.in_err-start.ensures) in
    λ other its. accepted_once c.one_outcome.ensures c.one_cursor.ensures text cursor other
    (Err why) its is ∙ sym (exit c.from_residual-in_err-start.ensures.1)

pub returns-clause-only : goal.returns-clause-only
returns-clause-only c =
    let text = c.args.text.now in
    let cursor = bytes_of c.args.cursor in
    let reference = c.in_ok-reference.reference in
    let found = c.in_ok-start.start in
    λ other its. accepted_once c.one_outcome.ensures c.one_cursor.ensures text cursor other
    (Ok record { reference = reference; start = found }) its
    (c.in_ok-reference.ensures.outcome, c.in_ok-start.ensures)
