use Rattle.std.proofs.Common.{Bor, List, ℕ, ◌∙◌, ap}
use Rattle.olr_words.specs.Record.{parts_of}
use Rattle.olr_words.proofs.Requests.{given_by}
use Rattle.olr_words.proofs.record.given_in.Goals as goal

pub returns-clause-given : goal.returns-clause-given
returns-clause-given c = given_by (parts_of c.args.words.now) c.in_ok-found.found
    c.in_ok-found.ensures.found c.read-given.result _ c.read-given.ensures.given c.read-given.ensures.format
    c.of_record.ensures
    (ap (λ (t : Bor (List ℕ)). t.now) c.read-given.ensures.text ∙ c.reference_in.ensures)
