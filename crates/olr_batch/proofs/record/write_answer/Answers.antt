use Rattle.olr_batch.proofs.Common.{exit, string_bytes, ◌∙◌, ℕ, List, None, ap, bytes_of, line_text}
use Rattle.olr_batch.specs.Records.{without_line_feed}
use Rattle.olr_batch.proofs.Lines.{found_line, no_memory_for}
use Rattle.olr_batch.proofs.record.write_answer.Goals as goal

pub returns-in_err-write_found-clause-fault : goal.returns-in_err-write_found-clause-fault
returns-in_err-write_found-clause-fault c = rw (exit c.from_residual-in_err-write_found.ensures.1)
    (no_memory_for c.args.on.now.records.now c.args.on.now.map.map.now c.args.text.now
    (string_bytes c.in_ok-answer.answer) c.in_ok-answer.ensures.answer)

pub returns-clause-line : goal.returns-clause-line
returns-clause-line c =
    found_line c.args.on.now.records.now c.args.on.now.map.map.now c.args.text.now c.args.name.number
    (bytes_of c.args.name.key) (string_bytes c.in_ok-answer.answer) _ c.in_ok-answer.ensures.answer
    (c.in_ok-write_found.ensures
    ∙ ap (λ (answer : List ℕ). line_text (without_line_feed answer) None
    (bytes_of c.args.name.key) c.args.name.number) c.deref.ensures)
