use Rattle.std.proofs.Common.{◌∙◌, ap, sym}
use Rattle.std.specs.Prelude.{Err, Ok}
use Rattle.olr_words.specs.Options.{options_of}
use Rattle.olr_words.specs.Record.{parts_of}
use Rattle.olr_words.proofs.Requests.{asked, fault_asked, has_subcommand}
use Rattle.olr_words.proofs.record.request_about.Goals as goal

pub returns-in-Ok : goal.returns-in-Ok
returns-in-Ok c = asked (parts_of c.args.words.now) c.in_ok-given.given c.name_in.result.now
    (Ok c.in-Ok.request) c.in_ok-given.ensures.given c.name_in.ensures
    (rw c.in-Ok.is at c.in-Some.ensures.asked)

pub returns-in-Err : goal.returns-in-Err
returns-in-Err c = fault_asked (parts_of c.args.words.now) c.in-Err.fault
    (asked (parts_of c.args.words.now) c.in_ok-given.given c.name_in.result.now
    (Err c.in-Err.fault) c.in_ok-given.ensures.given c.name_in.ensures
    (rw c.in-Err.is at c.in-Some.ensures.asked))

pub returns-in_default : goal.returns-in_default
returns-in_default c =
    let is = c.in_ok-given.ensures.given in
    absurd (has_subcommand c.name_in.result.now is.options
    (ap options_of c.name_in.ensures ∙ is.understood.named)
    c.in_default.ensures.none.0 (λ named. c.requires.legs (sym c.name_in.ensures ∙ named))
    (λ named. c.requires.lines (sym c.name_in.ensures ∙ named))
    c.in_default.ensures.none.1)
