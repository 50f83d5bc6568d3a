-- Lists that rise by a number of each element: a place is the number of lesser elements, and the
-- members decide the list.
use Rattle.olr_map.proofs.Common.{◌≡◌, ℕ, ◌<◌, ltb, List, map, length, Some, arith, slice_get, filter, AllPairs, IsStrictlyIncreasing, IsPermutation, lt-ltb, ltb-true, length-map, get_or-map, IsPermutation-sym, Contains-permutation}
use Rattle.std.proofs.lemmas.List.Kept.{AllPairs-from_increasing}
use Rattle.olr_base.proofs.Rising.{same_list, place_counts}

pub rank_counts_lesser : (xs : List ℕ) (rank id : ℕ) → IsStrictlyIncreasing xs
    → slice_get xs rank ≡ Some id → length (filter (λ other. ltb other id) xs) ≡ rank
rank_counts_lesser xs rank id rise there =
    place_counts (λ (a b : ℕ). a < b) (λ a b less more. omega arith) ltb
    (λ a b. (ltb-true a b, lt-ltb a b)) xs rank id (AllPairs-from_increasing _ rise) there

-- elements are in the order of their keys, where these rise
by_key : {X : Type 0} (key : X → ℕ) (xs : List X) → IsStrictlyIncreasing (map key xs)
    → AllPairs (λ a b. key a < key b) xs
by_key key xs rise i j d below inside =
    let size = length-map xs key in
    omega (
      arith,
      AllPairs-from_increasing _ rise i j 0 below (omega arith),
      get_or-map key xs i d 0 (omega arith),
      get_or-map key xs j d 0 inside,
    )

-- two lists of the same elements that rise are the same
pub same_rising : {X : Type 0} (key : X → ℕ) (xs ys : List X) → IsPermutation xs ys
    → IsStrictlyIncreasing (map key xs) → IsStrictlyIncreasing (map key ys) → xs ≡ ys
same_rising key xs ys moved up_x up_y =
    same_list (λ a b. key a < key b) (λ a b less more. omega arith) xs ys
    (by_key key xs up_x) (by_key key ys up_y)
    (λ z contains. Contains-permutation _ _ z moved contains)
    (λ z contains. Contains-permutation _ _ z (IsPermutation-sym xs ys moved) contains)
