use Rattle.std.proofs.Common.{◌∙◌, ap, subst, sym}
use Rattle.std.specs.Prelude.{Err}
use Rattle.olr_words.specs.Record.{IsQueryAbout, IsRequestOfWords, Subject, parts_of}
use Rattle.olr_words.proofs.Requests.{other_subject}
use Rattle.olr_words.proofs.record.request_of_record.Goals as goal

pub returns-in-Err : goal.returns-in-Err
returns-in-Err c =
    let its = parts_of c.args.words.now in
    subst (λ (s : Subject). IsQueryAbout s its (Err c.in-Err.fault))
    (sym (other_subject _ (λ is. c.in_default.not-lines (c.name_in.ensures ∙ is))
    (λ is. c.in_default.not-legs (c.name_in.ensures ∙ is))))
    (subst (IsRequestOfWords its) c.in-Err.is c.request_about.ensures)
