-- Numbers that differ, in another order.
use Rattle.olr_index.proofs.Common.{rules, ◌≡◌, ℕ, ◌+◌, ◌<◌, ◌≤◌, Bool, true, false, List, [], ◌∷◌, length, map, get_or, Option, Some, None, MatchOption, ltb, sym, refl, arith, ◌↔◌, IsTrue, IsAllAdjacentAnswer, IsPermutation, IsNonDecreasingBy, IsStrictlyIncreasing, IsSorted, nat_cmp, ltb-true, ltb-false, Decides-eqb, nat_eq_equiv, get_or-map, length-map, IsPermutation-map, IsPermutation-sym, IsNonDecreasingBy-from_sort, AllPairs-from_increasing, AllDiffer, IsFirstRepeat, Sorts}
use Rattle.std.proofs.lemmas.Map.Keys.{IsDistinct-IsPermutation}
use Rattle.std.proofs.lemmas.Map.Made.{AllPairs-from_IsDistinct, IsDistinct-from_AllPairs}

-- numbers that differ do so in any order
pub differ_permuted : {xs ys : List ℕ} → IsPermutation xs ys → AllDiffer xs → AllDiffer ys
differ_permuted moved differ = AllPairs-from_IsDistinct Decides-eqb _
    (IsDistinct-IsPermutation _ nat_eq_equiv.symm _ _ moved
    (IsDistinct-from_AllPairs Decides-eqb _ differ))

-- numbers that rise differ
pub rising_differ : (xs : List ℕ) → IsStrictlyIncreasing xs → AllDiffer xs
rising_differ xs rise i j d below inside same = grind (arith, AllPairs-from_increasing)

-- numbers that don't fall, and that differ, rise
pub differing_rise : (xs : List ℕ)
    → ((k : ℕ) → k + 1 < length xs → get_or xs k 0 ≤ get_or xs (k + 1) 0) → AllDiffer xs
    → IsStrictlyIncreasing xs
differing_rise xs up differ k inside = grind arith

-- ---- the keys of elements

pub keys_differ_permuted : {X : Type 0} (f : X → ℕ) (xs ys : List X) → IsPermutation xs ys
    → AllDiffer (map f xs) → AllDiffer (map f ys)
keys_differ_permuted f xs ys moved differ = differ_permuted (IsPermutation-map f xs ys moved) differ

keys_up : {X : Type 0} (f : X → ℕ) (xs : List X) → IsNonDecreasingBy f xs → (k : ℕ)
    → k + 1 < length (map f xs) → get_or (map f xs) k 0 ≤ get_or (map f xs) (k + 1) 0
keys_up f [] up k inside = absurd (omega arith)
keys_up f (x ∷ xs) up k inside =
    let below : k + 1 < length (x ∷ xs) = omega (arith, length-map (x ∷ xs) f) in
    omega (
      arith,
      up k _ x (omega arith) below,
      get_or-map f (x ∷ xs) k x 0 (omega arith),
      get_or-map f (x ∷ xs) (k + 1) x 0 below,
    )

pub keys_rise : {X : Type 0} (f : X → ℕ) (xs : List X) → IsNonDecreasingBy f xs
    → AllDiffer (map f xs) → IsStrictlyIncreasing (map f xs)
keys_rise f xs up differ = differing_rise _ (keys_up f _ up) differ

pub sorts_or_first : {X : Type 0} (f : X → ℕ) {xs ys : List X} {ids : List ℕ} (repeat : Option ℕ)
    → IsPermutation xs ys → (AllDiffer (map f xs) → IsStrictlyIncreasing (map f ys))
    → ids ≡ map f xs → MatchOption repeat (AllDiffer ids) (IsFirstRepeat ids)
    → MatchOption repeat (Sorts f xs ys) (IsFirstRepeat (map f xs))
sorts_or_first f None moved rise same differ = grind arith
sorts_or_first f (Some at) moved rise same first = rw (← same) first

-- elements whose keys rise once they are sorted differ
pub sorts_differ : {X : Type 0} (f : X → ℕ) (xs ys : List X) → Sorts f xs ys → AllDiffer (map f xs)
sorts_differ f xs ys sorts =
    search (rules, arith, keys_differ_permuted, IsPermutation-sym, rising_differ)

-- ---- the answer of a look at each neighbour

pub rising_answer : (xs : List ℕ) (r : Bool)
    → IsAllAdjacentAnswer (λ (x y : ℕ) (b : Bool). b ≡ ltb x y) xs r → IsTrue r
    ↔ IsStrictlyIncreasing xs
rising_answer xs true all = (λ yes k inside. ltb-true _ _ (sym (all k 0 inside)), λ rise. refl)
rising_answer xs false some = (
  λ no. absurd (cc),
  λ rise. absurd (omega (arith, rise some.0 some.1, ltb-false _ _ (sym (some.2 0)))),
)

-- the same of keys
pub keys_rising_answer : {X : Type 0} (f : X → ℕ) (xs : List X) (r : Bool)
    → IsAllAdjacentAnswer (λ (x y : X) (b : Bool). b ≡ ltb (f x) (f y)) xs r
    → IsTrue r ↔ IsStrictlyIncreasing (map f xs)
keys_rising_answer f [] true all = (λ yes k inside. absurd (omega arith), λ rise. refl)
keys_rising_answer f (x ∷ xs) true all = (
  λ yes k inside.
      let below : k + 1 < length (x ∷ xs) = omega (arith, length-map (x ∷ xs) f) in
      let less = ltb-true _ _ (sym (all k x below)) in
      omega (
        arith,
        get_or-map f (x ∷ xs) k x 0 (omega (arith, below)),
        get_or-map f (x ∷ xs) (k + 1) x 0 below,
      ),
  λ rise. refl,
)
keys_rising_answer f [] false some = (λ no. absurd (cc), λ rise. absurd (omega arith))
keys_rising_answer f (x ∷ xs) false some = (
  λ no. absurd (cc),
  λ rise.
      let k = some.0 in
      let below : k + 1 < length (x ∷ xs) = some.1 in
      let more = ltb-false _ _ (sym (some.2 x)) in
      let less = rise k (omega (arith, length-map (x ∷ xs) f)) in
      absurd (omega (
        arith,
        get_or-map f (x ∷ xs) k x 0 (omega (arith, below)),
        get_or-map f (x ∷ xs) (k + 1) x 0 below,
      )),
)

-- a sorted list rises exactly if the numbers that it has differ
pub sorted_answer : (xs ys : List ℕ) {r : Bool} → IsPermutation xs ys → IsSorted nat_cmp ys
    → IsTrue r ↔ IsStrictlyIncreasing ys → IsTrue r ↔ AllDiffer xs
sorted_answer xs ys moved sorted rises = (
  λ yes. differ_permuted (IsPermutation-sym xs ys moved) (rising_differ _ (rises.0 yes)),
  λ differ. rises.1 (differing_rise _
      (λ k inside. IsNonDecreasingBy-from_sort (λ (x : ℕ). x) ys sorted k (k + 1) 0 (omega arith)
      inside) (differ_permuted moved differ)),
)
