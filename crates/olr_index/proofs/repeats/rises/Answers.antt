use Rattle.olr_index.proofs.Common.{ltb, rules, answers_always}
use Rattle.olr_index.proofs.Permuted.{rising_answer}
use Rattle.olr_index.proofs.repeats.rises.Goals as goal

pub returns : goal.returns
returns c = rising_answer _ _ (c.is_sorted_by.ensures.cases ltb
    (answers_always _ _ _ (λ f a r g h. search rules)))
