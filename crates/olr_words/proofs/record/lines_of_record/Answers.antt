use Rattle.std.proofs.Common.{◌∙◌, [], ap, sym}
use Rattle.std.specs.Prelude.{Err, Some}
use Rattle.olr_words.specs.Record.{parts_of}
use Rattle.olr_words.specs.RecordWords.{at_spaces, parts}
use Rattle.olr_words.proofs.Requests.{lines_asked, lines_fault, without_reference}
use Rattle.olr_words.proofs.record.lines_of_record.Goals as goal

pub returns : goal.returns
returns c =
    let its = parts_of c.args.words.now in
    let read = without_reference c.args.words.now.reference its.words
    (sym c.is_some.ensures ∙ c.if-is_some.false)
    ∙ ap Some (sym (c.in_ok-words.ensures ∙ ap (λ text. parts (at_spaces text) (Some []))
    (c.deref-2.ensures ∙ (rw c.deref.ensures.value at c.in_ok-text.ensures)))) in
    lines_fault its c.in-Err.fault (lines_asked its (parts_of c.in_ok-words.words)
    c.in_ok-given.given (Err c.in-Err.fault) read c.in_ok-given.ensures.given
    c.in-Err.ensures.refused)
