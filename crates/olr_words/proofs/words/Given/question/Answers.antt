use Rattle.std.proofs.lemmas.Result.{err_from_is_err_and}
use Rattle.olr_request.specs.declared.fault.Fault.{Fault}
use Rattle.olr_request.specs.declared.fault.Fault.TheVariants.{BadTolerance}
use Rattle.olr_words.proofs.Common.{Tolerances, AreTolerances, IsRefusedQuestion, IsRefusedWhat, Given}
use Rattle.olr_words.specs.declared.words.MapSubcommand.{MapSubcommand}
use Rattle.olr_words.specs.declared.words.MapSubcommand.TheVariants.{Candidates, Match, Places, Why}
use Rattle.olr_words.proofs.words.Given.question.Goals as goal

-- the tolerances are in range, and then what is asked is refused
by_what : (given : Given) (subcommand : MapSubcommand) (tolerances : Tolerances) (why : Fault)
    → AreTolerances given tolerances → IsRefusedWhat given subcommand why
    → IsRefusedQuestion given subcommand why
by_what given Candidates tolerances why are is = absurd is
by_what given Match tolerances (BadTolerance name) are is = absurd is
by_what given Match tolerances other are is = ((tolerances, are), is)
by_what given Places tolerances (BadTolerance name) are is = absurd is
by_what given Places tolerances other are is = ((tolerances, are), is)
by_what given Why tolerances (BadTolerance name) are is = absurd is
by_what given Why tolerances other are is = ((tolerances, are), is)

pub returns-in_err-what-clause-refused : goal.returns-in_err-what-clause-refused
returns-in_err-what-clause-refused c =
    let p = err_from_is_err_and c.from_residual-in_err-what.result
    c.from_residual-in_err-what.ensures.1 in
    rw (p.1, p.2) (by_what c.args.self.now c.args.subcommand c.in_ok-tolerances.tolerances _
    c.in_ok-tolerances.ensures.accepted c.in_err-what.ensures.refused)
