use Rattle.olr_index.proofs.Common.{rules, IsNonDecreasingBy-from_sort_by_key}
use Rattle.olr_index.proofs.Permuted.{keys_differ_permuted, keys_rise}
use Rattle.olr_index.proofs.sorting.sort.Goals as goal

pub returns : goal.returns
returns g c = record {
  same = c.sort_unstable_by_key.ensures.permutation;
  rise = λ differ. keys_rise _ _
      (IsNonDecreasingBy-from_sort_by_key g.T.Keyed.key_of _ c.sort_unstable_by_key.ensures.sorted
      (λ a r q k. search rules))
      (keys_differ_permuted _ _ _ c.sort_unstable_by_key.ensures.permutation differ);
}
