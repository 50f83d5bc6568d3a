-- A number among numbers that rise.
use Rattle.olr_index.proofs.Common.{◌≡◌, ℕ, ◌-◌, ◌<◌, ◌≤◌, List, [], ◌∷◌, map, length, drop, get_or, Result, Ok, Err, MatchResult, Some, ap, ◌∙◌, arith, slice_get, slice_range, Contains, nat_cmp, IsStrictlyIncreasing, IsBinarySearchResult, IsSearchInRange, eq-or-lt_of_le, length-map, get_or-map, get_or_default, take-map, drop-map, cases_lt, slice_get-get_or, AllPairs-from_increasing, searched}

pub rises : (xs : List ℕ) → IsStrictlyIncreasing xs → (i j : ℕ) → i ≤ j → j < length xs
    → get_or xs i 0 ≤ get_or xs j 0
rises xs up i j le inside = grind (arith, eq-or-lt_of_le, AllPairs-from_increasing)

-- what a search answers
search_finds : (xs : List ℕ) (x : ℕ) (r : Result ℕ ℕ) → IsStrictlyIncreasing xs
    → IsBinarySearchResult (λ y. nat_cmp y x) xs r
    → MatchResult r (λ i. (i < length xs) × (get_or xs i 0 ≡ x)) (λ i. (i ≤ length xs)
    × ((k : ℕ) → k < i → get_or xs k 0 < x) × ((k : ℕ) → i ≤ k → k < length xs → x < get_or xs k 0))
search_finds xs x r up found = searched _ x r found (rises _ up)

-- a number that isn't among them
not_found : (xs : List ℕ) (x at : ℕ) → ((k : ℕ) → k < at → get_or xs k 0 < x)
    → ((k : ℕ) → at ≤ k → k < length xs → x < get_or xs k 0) → Contains xs x → ⊥
not_found xs x at below above contains = grind (arith, get_or_default, cases_lt)

-- a search by key is one among the keys
search_keys : {X : Type 0} (f : X → ℕ) (xs : List X) (x : ℕ) (r : Result ℕ ℕ)
    → IsSearchInRange r (length xs) → IsBinarySearchResult (λ (y : X). nat_cmp (f y) x) xs r
    → IsBinarySearchResult (λ (y : ℕ). nat_cmp y x) (map f xs) r
search_keys f [] x (Ok i) inside found = absurd (omega arith)
search_keys f (e ∷ es) x (Ok i) inside found =
    λ d. rw (get_or-map f (e ∷ es) i e d inside) (found e)
search_keys f [] x (Err i) inside found = grind arith
search_keys f (e ∷ es) x (Err i) inside found = λ up.
    let all = e ∷ es in
    let size = length-map all f in
    let parted = found (λ a b d le below.
    let first = get_or-map f all a d 0 (omega arith) in
    let second = get_or-map f all b d 0 below in
    rw (← first) (rw (← second) (up a b 0 le (omega arith)))) in (
      (λ k d low below. rw (get_or-map f all k e d (omega (arith, inside, below)))
          (parted.0 k e low below)),
      (λ k d low below. rw (get_or-map f all k e d (omega (arith, size, below)))
          (parted.1 k e low (omega arith))),
    )

-- what it answers
pub found_by_key : {X : Type 0} (f : X → ℕ) (xs : List X) (x : ℕ) (r : Result ℕ ℕ)
    → IsStrictlyIncreasing (map f xs)
    → IsSearchInRange r (length xs) → IsBinarySearchResult (λ (y : X). nat_cmp (f y) x) xs r
    → MatchResult r (λ i. slice_get (map f xs) i ≡ Some x) (λ _. Contains (map f xs) x → ⊥)
found_by_key f xs x (Ok i) up inside found =
    let at = search_finds (map f xs) x (Ok i) up (search_keys f xs x (Ok i) inside found) in
    slice_get-get_or (map f xs) i 0 at.0 ∙ ap Some at.1
found_by_key f xs x (Err i) up inside found =
    let at = search_finds (map f xs) x (Err i) up (search_keys f xs x (Err i) inside found) in
    not_found (map f xs) x i at.1 at.2

-- a part of the keys
pub part_keys : {X : Type 0} (f : X → ℕ) (xs : List X) (low high : ℕ)
    → map f (slice_range xs low high) ≡ slice_range (map f xs) low high
part_keys f xs low high = cc (drop-map f low xs, take-map f (high - low) (drop low xs))
