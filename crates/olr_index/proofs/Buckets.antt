-- Ids in buckets.
use Rattle.olr_index.proofs.Common.{◌≡◌, ℕ, ◌+◌, ◌-◌, ◌/◌, ◌^◌, ◌<◌, ◌≤◌, List, map, length, get_or, Result, Ok, Err, MatchResult, sym, ap, ◌∙◌, arith, slice_index, slice_range, slice_get, Contains, Some, nat_cmp, IsBinarySearchResult, IsSearchInRange, IsStrictlyIncreasing, div-mul-le_self, IsHead, AreHeads, IsIndex, length-take, length-drop, get_or-take, get_or-drop, get_or_default, get_or_from_slice_get, slice_get-get_or, slice_get_within}
use Rattle.std.proofs.lemmas.Nat.{le-div, pow_pos}
use Rattle.olr_index.proofs.Finding.{found_by_key, part_keys, rises}

-- a greater key is in no earlier bucket
bucket_rises : (shift a b : ℕ) → a ≤ b → a / 2 ^ shift ≤ b / 2 ^ shift
bucket_rises shift a b le = grind (arith, le-div, pow_pos, div-mul-le_self)

-- where the keys of a bucket begin
pub head_here : (shift : ℕ) (keys : List ℕ) (bucket next : ℕ) → IsStrictlyIncreasing keys
    → next ≤ length keys → ((k : ℕ) → k < next → slice_index keys k / 2 ^ shift < bucket)
    → (next < length keys → bucket ≤ slice_index keys next / 2 ^ shift)
    → IsHead shift keys bucket next
head_here shift keys bucket next up within below here = grind (arith, bucket_rises, rises)

-- heads of each bucket up to that of the greatest id, and of one more, make an index
pub index_of : (keys : List ℕ) (shift last : ℕ) {heads : List ℕ} → IsStrictlyIncreasing keys
    → length keys < 2 ^ 32 → shift < 64 → AreHeads shift keys heads
    → length heads ≡ last / 2 ^ shift + 1 + 1
    → ((k : ℕ) → k < length keys → slice_index keys k ≤ last) → IsIndex keys shift heads
index_of keys shift last rise few small heads_of count most = grind (arith, bucket_rises)

-- a bucket begins where the one before it ends, or further on
pub heads_rise : {shift : ℕ} {keys : List ℕ} {bucket : ℕ} (low high : ℕ)
    → IsHead shift keys bucket low → IsHead shift keys (bucket + 1) high → low ≤ high
heads_rise low high at_low at_high = grind arith

-- a part of a list
pub part_at : {X : Type 0} (xs : List X) (low high k : ℕ) (d : X) → k < high - low
    → get_or (slice_range xs low high) k d ≡ get_or xs (low + k) d
part_at xs low high k d inside = grind (arith, get_or-take, get_or-drop)

pub part_length : {X : Type 0} (xs : List X) (low high : ℕ) → high ≤ length xs
    → length (slice_range xs low high) ≡ high - low
part_length xs low high within = grind (arith, length-take, length-drop)

pub part_rises : (keys : List ℕ) (low high : ℕ) → low ≤ high → high ≤ length keys
    → IsStrictlyIncreasing keys → IsStrictlyIncreasing (slice_range keys low high)
part_rises keys low high le within up k inside = grind (arith, part_length, part_at)

found_there : (keys : List ℕ) (low high place id : ℕ) → low ≤ high → high ≤ length keys
    → slice_get (slice_range keys low high) place ≡ Some id → slice_get keys (low + place) ≡ Some id
found_there keys low high place id le within is =
    let size = part_length keys low high within in
    let inside = slice_get_within (slice_range keys low high) place id is in
    let here = part_at keys low high place 0 (omega arith) in
    let there = get_or_from_slice_get (slice_range keys low high) place id 0 is in
    slice_get-get_or keys (low + place) 0 (omega arith) ∙ ap Some (sym here ∙ there)

-- an id that isn't in its bucket is nowhere
nowhere : (shift : ℕ) (keys : List ℕ) (low high id : ℕ) → IsHead shift keys (id / 2 ^ shift) low
    → IsHead shift keys (id / 2 ^ shift + 1) high
    → (Contains (slice_range keys low high) id → ⊥) → Contains keys id → ⊥
nowhere shift keys low high id at_low at_high none has =
    let k = has.0 in
    let is = get_or_default keys k 0 id has.1 ∙ has.2 in
    let bucket = ap (λ (n : ℕ). n / 2 ^ shift) is in
    let from : k < low → ⊥ = λ before. let early = at_low.below k before in omega arith in
    let inside : high ≤ k → ⊥ = λ behind. omega (arith, at_high.above k behind has.1) in
    let there : low + (k - low) ≡ k = omega arith in
    let at = part_at keys low high (k - low) 0 (omega arith) in
    let below : k - low < length (slice_range keys low high) =
    omega (arith, part_length keys low high at_high.within) in
    none (
      k - low,
      below,
      get_or_default (slice_range keys low high) (k - low) id 0 below ∙ at
          ∙ ap (λ (i : ℕ). get_or keys i 0) there ∙ is,
    )

-- what a search in the bucket of an id finds among all items
pub found_between : {X : Type 0} (f : X → ℕ) (xs : List X) (shift low high id : ℕ) (r : Result ℕ ℕ)
    → IsHead shift (map f xs) (id / 2 ^ shift) low
    → IsHead shift (map f xs) (id / 2 ^ shift + 1) high
    → IsStrictlyIncreasing (map f xs) → IsSearchInRange r (length (slice_range xs low high))
    → IsBinarySearchResult (λ (x : X). nat_cmp (f x) id) (slice_range xs low high) r
    → MatchResult r (λ place. slice_get (map f xs) (low + place) ≡ Some id)
    (λ _. Contains (map f xs) id → ⊥)
found_between f xs shift low high id r at_low at_high rise within found =
    let le = heads_rise _ _ at_low at_high in
    let part = part_rises (map f xs) low high le at_high.within rise in
    told r (rw (part_keys f xs low high) at
    (found_by_key f (slice_range xs low high) id r (rw (part_keys f xs low high) part) within
    found))
  where
    told : (r : Result ℕ ℕ)
        → MatchResult r (λ i. slice_get (slice_range (map f xs) low high) i ≡ Some id)
        (λ _. Contains (slice_range (map f xs) low high) id → ⊥)
        → MatchResult r (λ i. slice_get (map f xs) (low + i) ≡ Some id) (λ _. Contains (map f xs) id
        → ⊥)
    told (Ok place) there = found_there (map f xs) low high place id
        (heads_rise _ _ at_low at_high) at_high.within there
    told (Err place) none = nowhere shift (map f xs) low high id at_low at_high none
