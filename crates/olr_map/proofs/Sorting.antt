-- Elements with keys that differ can be sorted: there is a list of them by rising key.
use Rattle.olr_map.proofs.Common.{AllDiffer, Sorts, ℕ, zero, suc, ◌<◌, ◌≤◌, List, [], ◌∷◌, map, length, get_or, inl, inr, arith, insert, IsNonDecreasingBy, IsPermutation, cases_lt, IsPermutation-refl, IsPermutation-trans, IsPermutation-cons, IsPermutation-insert, IsNonDecreasingBy-insert, keys_differ_permuted, keys_rise}

module _ {A : Type 0} (key : A → ℕ) where
  -- a place for a number among keys: none before it is greater, and none behind it is less
  record Place (n : ℕ) (xs : List A) : Type 0 where
    at : ℕ
    inside : at ≤ length xs
    before : (k : ℕ) (d : A) → k < at → key (get_or xs k d) ≤ n
    behind : (k : ℕ) (d : A) → at ≤ k → k < length xs → n ≤ key (get_or xs k d)

  further : (n : ℕ) (x : A) (xs : List A) → key x < n → Place n xs → Place n (x ∷ xs)
  further n x xs less rest = record {
    at = suc rest.at;
    inside = omega arith;
    before = before;
    behind = behind;
  }
    where
      before : (k : ℕ) (d : A) → k < suc rest.at → key (get_or (x ∷ xs) k d) ≤ n
      before zero d below = omega arith
      before (suc k) d below = rest.before k d (omega arith)

      behind : (k : ℕ) (d : A) → suc rest.at ≤ k → k < length (x ∷ xs)
          → n ≤ key (get_or (x ∷ xs) k d)
      behind zero d le below = absurd (omega arith)
      behind (suc k) d le below = rest.behind k d (omega arith) (omega arith)

  place : (n : ℕ) (xs : List A) → IsNonDecreasingBy key xs → Place n xs
  place n [] up = record {
    at = 0;
    inside = omega arith;
    before = λ k d below. absurd (omega arith);
    behind = λ k d le below. absurd (omega arith);
  }
  place n (x ∷ xs) up = elim (cases_lt (key x) n) [
    | inl less ↦ further n x xs less (place n xs (λ i j d le below.
        up (suc i) (suc j) d (omega arith) (omega arith)))
    | inr le ↦ record {
      at = 0;
      inside = omega arith;
      before = λ k d below. absurd (omega arith);
      behind = λ k d _ below. omega (arith, up 0 k d (omega arith) below);
    }
  ]

  sorted : (xs : List A) → (ys : List A) × IsPermutation xs ys × IsNonDecreasingBy key ys
  sorted [] = ([], IsPermutation-refl [], λ i j d le below. absurd (omega arith))
  sorted (x ∷ xs) =
      let rest = sorted xs in
      let at = place (key x) rest.0 rest.2 in (
        insert rest.0 at.at x,
        IsPermutation-trans _ _ _ (IsPermutation-cons x xs rest.0 rest.1)
            (IsPermutation-insert rest.0 at.at x),
        IsNonDecreasingBy-insert key rest.0 at.at x rest.2 at.inside at.before at.behind,
      )

  pub sorted_rows : (xs : List A) → AllDiffer (map key xs) → (sorted : List A) × Sorts key xs sorted
  sorted_rows xs differ =
      let all = sorted xs in (
        all.0,
        record {
          same = all.1;
          rise = keys_rise key all.0 all.2 (keys_differ_permuted key xs all.0 all.1 differ);
        },
      )
