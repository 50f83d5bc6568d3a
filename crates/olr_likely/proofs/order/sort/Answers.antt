use Rattle.std.proofs.Common.{rules}
use Rattle.std.proofs.lemmas.List.Sorted.{IsNonDecreasingBy-from_sort_by_key, answers_always}
use Rattle.olr_likely.specs.declared.ranked.RankedPlace.{RankedPlace}
use Rattle.olr_likely.proofs.Sorting.{are_in_order}
use Rattle.olr_likely.proofs.order.sort.Goals as goal

pub returns : goal.returns
returns c = are_in_order _ _ c.requires c.sort_by_key.ensures.permutation
    (IsNonDecreasingBy-from_sort_by_key (λ (place : RankedPlace). place.likely.cost) _
    c.in_ok-sort_by_key.ensures.sorted (λ a r q k. search rules))
    (c.sort_by_key.ensures.stable (λ (place : RankedPlace). place.likely.cost)
    (answers_always _ _ _ (λ f a r g k. search rules)))
