use Rattle.std.proofs.Common.{◌∙◌, sym}
use Rattle.olr_words.proofs.AskedAgain.{ask_of_kept}
use Rattle.olr_words.proofs.record.keep_question.Goals as goal

pub keep-requires : goal.keep-requires
keep-requires c = ask_of_kept c.args.words.now c.args.given.now c.in-Some.question
    c.name_in.result.now (sym c.has_reference.ensures ∙ c.if-has_reference.false)
    c.args.words.now.split c.requires c.name_in.ensures c.in-Some.ensures
