-- How great the penalties of a table are.
use Rattle.olr_keys.proofs.Common.{get_or_append_left, get_or_at, rules, ℕ, zero, suc, ◌+◌, ◌<◌, ◌≤◌, List, [], length, Option, None, inl, inr, arith, ◌≡◌, ◌++◌, ◌∷◌, All, IfSome, slice_index_or, get_or-eq_default, cases_lt, All-get_or, slice_get-get_or, slice_get_past, Penalties, IsTable, IsLayer, AreLegs, count_of, penalty_at, leg_at, max_leg, max_penalty}

-- what holds of each element of a list holds of what stands at an index, if it holds of the default
pub at_index : {X : Type 0} (P : X → Type 0) (xs : List X) (index : ℕ) (default : X) → All P xs
    → P default → P (slice_index_or xs index default)
at_index P xs index default each otherwise = grind (arith, cases_lt, get_or-eq_default)

-- what holds of each of the first elements, and of one more, holds of all of them
pub each_more : {X : Type 0} (P : ℕ → X → Type 0) (default : X) (count : ℕ) (xs : List X) (x : X)
    → length xs ≡ count
    → ((k : ℕ) → k < count → P k (slice_index_or xs k default)) → P count x
    → (k : ℕ) → k < count + 1 → P k (slice_index_or (xs ++ x ∷ []) k default)
each_more P default count xs x long each here k inside =
    grind (arith, cases_lt, get_or_append_left, get_or_at)

-- a layer that there isn't counts as one of no candidates
pub layer_sound : (p : Penalties) (layer : ℕ) → IsTable p
    → IsLayer (slice_index_or p.candidates layer [])
layer_sound p layer sound = at_index IsLayer _ _ [] sound.layers
    (record { at_most = omega arith; rise = search rules; each = search rules })

pub count_at_most : (p : Penalties) (layer : ℕ) → IsTable p → count_of p layer ≤ 64
count_at_most p layer sound = let it = layer_sound _ _ sound in it.at_most

pub penalty_at_most : (p : Penalties) (layer rank : ℕ) → IsTable p
    → IfSome (penalty_at p layer rank) (λ penalty. penalty ≤ max_penalty)
penalty_at_most p layer zero sound = tt
penalty_at_most p layer (suc index) sound =
    let it = layer_sound _ _ sound in
    let here = slice_index_or p.candidates layer [] in
    elim (cases_lt index (length here)) [
      | inl inside ↦ rw (slice_get-get_or _ _ 0 inside)
          (All-get_or (λ penalty. penalty ≤ max_penalty) _ _ 0 inside it.each)
      | inr outside ↦ rw (slice_get_past here index (omega (arith, outside))) tt
    ]

-- the legs to a layer
pub legs_sound : (p : Penalties) (layer : ℕ) → IsTable p → layer + 1 < length p.candidates
    → AreLegs (count_of p layer) (count_of p (layer + 1)) (slice_index_or p.legs layer [])
legs_sound p layer sound inside =
    sound.legs layer (slice_index_or p.legs layer [])
    (slice_get-get_or p.legs layer [] (omega arith))

pub leg_at_most : (p : Penalties) (layer before rank : ℕ) → IsTable p → layer < length p.candidates
    → IfSome (leg_at p layer before rank) (λ penalty. penalty ≤ max_leg)
leg_at_most p layer before rank sound inside =
    let it = legs_sound _ _ sound (omega arith) in
    at_index (λ (leg : Option ℕ). IfSome leg (λ penalty. penalty ≤ max_leg)) _ _ None it.each tt
