use Rattle.olr_index.proofs.Common.{ltb, rules, answers_always}
use Rattle.olr_index.proofs.Permuted.{keys_rising_answer}
use Rattle.olr_index.proofs.keyed.rises.Goals as goal

pub returns : goal.returns
returns g c = keys_rising_answer _ _ _
    (c.is_sorted_by.ensures.cases (λ item next. ltb (g.T.Keyed.key_of item) (g.T.Keyed.key_of next))
    (answers_always _ _ _ (λ f a r h k. search rules)))
