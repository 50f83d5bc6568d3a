-- Places that were sorted by their costs.
use Rattle.std.proofs.Common.{◌≡◌, ℕ, ◌<◌, ◌≤◌, Bool, true, false, List, filter, get_or, refl, sym, inl, inr, arith}
use Rattle.std.proofs.lemmas.Bool.{cases_Bool, cases_lt, le-ltb}
use Rattle.std.proofs.lemmas.List.Kept.{AllPairs-filter}
use Rattle.std.proofs.lemmas.Option.{slice_get-get_or}
use Rattle.std.specs.Prelude.{AllPairs, IsPermutation}
use Rattle.std.specs.List.Sorted.{IsNonDecreasingBy, IsStableByKey, ties}
use Rattle.std.specs.Ordering.{is_lt, nat_cmp}
use Rattle.olr_likely.specs.Order.{AreInLikelyOrder, IsLikelier}
use Rattle.olr_likely.specs.Ranked.{AreNumbered}
use Rattle.olr_likely.specs.declared.ranked.RankedPlace.{RankedPlace}
use Rattle.olr_likely.proofs.Kept.{two_kept}

-- a number isn't less than the same one
not_less : (m n : ℕ) → m ≡ n → is_lt (nat_cmp m n) ≡ false
not_less m n same = grind (arith, cases_Bool, le-ltb)

-- a place opened before another one
IsEarlier : RankedPlace → RankedPlace → Type 0
IsEarlier one other = one.rank < other.rank

-- numbered places are in the order in which they opened
numbered : (places : List RankedPlace) → AreNumbered places → AllPairs IsEarlier places
unfolding IsEarlier
numbered places are i j d less inside =
    let first = are i _ (slice_get-get_or places i d (omega arith)) in
    let second = are j _ (slice_get-get_or places j d inside) in
    omega arith

module _ (places ordered : List RankedPlace) (are : AreNumbered places)
    (same : IsPermutation places ordered)
    (rises : IsNonDecreasingBy (λ (place : RankedPlace). place.likely.cost) ordered)
    (stable : IsStableByKey (λ (place : RankedPlace). place.likely.cost) nat_cmp places ordered) where
  -- the test whether a place has the cost of another one
  ties_with : RankedPlace → RankedPlace → Bool
  ties_with one = ties (λ (a b : RankedPlace). is_lt (nat_cmp a.likely.cost b.likely.cost)) one

  -- places of one cost do
  ties_by_cost : (one other : RankedPlace) → one.likely.cost ≡ other.likely.cost
      → ties_with one other ≡ true
  unfolding ties_with
  ties_by_cost one other alike =
      rw (
        not_less one.likely.cost other.likely.cost alike,
        not_less other.likely.cost one.likely.cost (sym alike),
      ) refl

  -- those of one cost are in the order in which they opened
  of_one_cost : (one : RankedPlace) → AllPairs IsEarlier (filter (ties_with one) ordered)
  unfolding ties_with
  of_one_cost one = rw (stable one)
      (AllPairs-filter IsEarlier (ties_with one) places (numbered places are))

  -- so all are in the likely order
  in_order : AllPairs IsLikelier ordered
  unfolding IsEarlier
  in_order i j d less inside =
      let first = get_or ordered i d in
      let second = get_or ordered j d in
      let up : first.likely.cost ≤ second.likely.cost = rises i j d (omega arith) inside in
      elim (cases_lt first.likely.cost second.likely.cost) [
        | inl lower ↦ inl lower
        | inr no_lower ↦
            let alike : first.likely.cost ≡ second.likely.cost = omega arith in
            inr (
              alike,
              two_kept (ties_with first) IsEarlier ordered i j d less inside
                  (ties_by_cost first first refl) (ties_by_cost first second alike)
                  (of_one_cost first),
            )
      ]

  pub are_in_order : AreInLikelyOrder places ordered
  are_in_order = record { same = same; rise = in_order }
