-- The likely order: the places that are shown, and those that may be missing.
use Rattle.std.proofs.Common.{◌≡◌, ℕ, zero, suc, ◌+◌, ◌*◌, ◌≤◌, Bool, true, List, [], ◌∷◌, filter, take, min, nat_le, All, Some, refl, inl, inr, arith}
use Rattle.std.proofs.lemmas.Bool.{le-leb, or_right}
use Rattle.std.proofs.lemmas.List.{get_or-take, length-take}
use Rattle.std.proofs.lemmas.List.Elements.{All-cons, All-nil, All-weaker}
use Rattle.std.proofs.lemmas.List.Kept.{AllPairs-filter}
use Rattle.std.proofs.lemmas.List.Sorted.{All-permutation, Contains-permutation, IsPermutation-sym}
use Rattle.std.specs.Prelude.{AllPairs, Contains, slice_get}
use Rattle.olr_places.specs.declared.limits.PlaceLimits.{PlaceLimits}
use Rattle.olr_likely.specs.LikelyLaws.{FirstIsLikeliest, IsNoCheaper, NoneIsLess, ShownAreFirst}
use Rattle.olr_likely.specs.Order.{AreInLikelyOrder, IsLikelier, is_shown, least_cost}
use Rattle.olr_likely.specs.declared.ranked.RankedPlace.{RankedPlace}

-- ---- the least cost

-- a place costs at least so much
abbrev pub CostsAtLeast : ℕ → RankedPlace → Type 0
CostsAtLeast cost place = cost ≤ place.likely.cost

lower : (cost less : ℕ) (places : List RankedPlace) → less ≤ cost
    → All (CostsAtLeast cost) places → All (CostsAtLeast less) places
lower cost less places at_most all = All-weaker (CostsAtLeast cost) (CostsAtLeast less)
    (λ place above. omega arith) places all

pub none_less : NoneIsLess
none_less [] = All-nil (CostsAtLeast 0)
none_less (place ∷ []) = All-cons (CostsAtLeast place.likely.cost) place [] (omega arith)
    (All-nil (CostsAtLeast place.likely.cost))
none_less (place ∷ next ∷ rest) =
    let least = least_cost (next ∷ rest) in
    let both = min place.likely.cost least in
    let low : both ≤ least = omega arith in
    All-cons (CostsAtLeast both) place (next ∷ rest) (omega arith)
    (lower least both (next ∷ rest) low (none_less (next ∷ rest)))

-- what each place costs at least, the least one does
at_most_least : (cost : ℕ) (first : RankedPlace) (places : List RankedPlace)
    → All (CostsAtLeast cost) (first ∷ places) → cost ≤ least_cost (first ∷ places)
at_most_least cost first [] all = all 0 first (omega arith)
at_most_least cost first (next ∷ places) all =
    let here = all 0 first (omega arith) in
    let rest = at_most_least cost next places (λ k d inside. all (suc k) d (omega arith)) in
    omega arith

pub any_least : (cost : ℕ) (places : List RankedPlace) (place : RankedPlace) → Contains places place
    → All (CostsAtLeast cost) places → cost ≤ least_cost places
any_least cost [] place (k, inside, is) all = absurd (omega arith)
any_least cost (first ∷ places) place is all = at_most_least cost first places all

-- ---- the first one

-- the first place of those in order costs the least
least_first : (first : RankedPlace) (rest : List RankedPlace) → AllPairs IsLikelier (first ∷ rest)
    → All (CostsAtLeast first.likely.cost) (first ∷ rest)
least_first first rest rise zero d inside = omega arith
least_first first rest rise (suc k) d inside = elim (rise 0 (suc k) d (omega arith) inside) [
  | inl less ↦ omega arith
  | inr same ↦ omega (arith, same.0)
]

-- what passes is the first one of those that are kept
first_kept : (t : RankedPlace → Bool) (count : ℕ) (first : RankedPlace)
    (rest : List RankedPlace) → 1 ≤ count → t first ≡ true
    → slice_get (take count (filter t (first ∷ rest))) 0 ≡ Some first
first_kept t zero first rest positive passes = absurd (omega arith)
first_kept t (suc count) first rest positive passes = rw passes refl

module _ (limits : PlaceLimits) (places : List RankedPlace) (place : RankedPlace)
    (is : Contains places place) where
  found : (ordered shown : List RankedPlace) → AreInLikelyOrder places ordered
      → shown ≡ take limits.most (filter (is_shown limits.within (least_cost places)) ordered)
      → Contains ordered place → IsNoCheaper shown place
  found [] shown order are (k, inside, at) = absurd (omega arith)
  found (first ∷ rest) shown order are among =
      let low = least_first first rest order.rise in
      let back = IsPermutation-sym places (first ∷ rest) order.same in
      let all = All-permutation (CostsAtLeast first.likely.cost) (first ∷ rest) places back low in
      let least = any_least first.likely.cost places place is all in
      let most = least_cost places + 30 * limits.within in
      let passing : is_shown limits.within (least_cost places) first ≡ true =
      or_right (nat_le first.opener.gap limits.within) (nat_le first.likely.cost most)
      (le-leb first.likely.cost most (omega arith)) in
      record {
        first = first;
        first_is = rw are (first_kept (is_shown limits.within (least_cost places)) limits.most first
            rest limits.most_in_range.least passing);
        no_cheaper = rw among.2 at (low among.0 place among.1);
      }

pub first_likeliest : FirstIsLikeliest
first_likeliest limits places shown place are is =
    found limits places place is are.ordered shown are.in_order are.first
    (Contains-permutation places are.ordered place are.in_order.same is)

-- ---- all that are shown

taken_rise : {X : Type 0} (R : X → X → Type 0) (xs : List X) (count : ℕ) → AllPairs R xs
    → AllPairs R (take count xs)
taken_rise {X} R xs count rise i j d lt inside = grind (arith, length-take, get_or-take)

pub shown_first : ShownAreFirst
shown_first limits places shown are =
    let passing = filter (is_shown limits.within (least_cost places)) are.ordered in
    rw are.first (record {
      rise = taken_rise IsLikelier passing limits.most
          (AllPairs-filter IsLikelier (is_shown limits.within (least_cost places)) are.ordered
          are.in_order.rise);
      at_most = omega (arith, length-take limits.most passing);
    })
