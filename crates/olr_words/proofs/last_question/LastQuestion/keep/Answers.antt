use Rattle.std.proofs.Common.{subst, sym}
use Rattle.olr_words.specs.LastQuestion.{AskOfEach}
use Rattle.olr_words.proofs.last_question.LastQuestion.keep.Goals as goal

pub invariant_of-self : goal.invariant_of-self
invariant_of-self c =
    subst (λ words. AskOfEach words c.args.question c.args.format) (sym c.in-Ok.ensures.ok) c.requires
