use Rattle.olr_why.proofs.Common.{AreAnswers, KeyValue, List}
use Rattle.olr_keys.specs.AnswersOf.{answers_of}
use Rattle.olr_why.proofs.Trials as keys
use Rattle.olr_why.proofs.trial.first_key.Goals as goal

pub returns : goal.returns
returns c =
    let answers : List KeyValue = answers_of c.in_ok-finder.finder.penalties in
    let are : AreAnswers c.args.layers.now.penalties answers =
    rw (← c.table.ensures) c.in_ok-finder.ensures.answers in
    keys.first_key _ answers _ are c.in_ok-first.ensures.next
