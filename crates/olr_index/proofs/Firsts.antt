-- The items of a first number are those of one bucket.
use Rattle.olr_index.proofs.Common.{◌≡◌, ℕ, ◌+◌, ◌-◌, ◌<◌, ◌≤◌, List, [], map, length, get_or, ap, ◌∙◌, arith, slice_index, slice_range, IsStrictlyIncreasing, length-map, get_or-map, Contains-get_or, IsHead, IsIndex}
use Rattle.olr_index.specs.Pairs.{first_of, AreOfFirst}
use Rattle.olr_index.proofs.Buckets.{heads_rise, part_at, part_length, part_rises}
use Rattle.olr_index.proofs.Finding.{part_keys}

-- where the items of a first number begin and end, as it was read
pub bucket_at : {keys heads read : List ℕ} {first bucket low high : ℕ} → IsIndex keys 32 heads
    → read ≡ heads → bucket ≡ first → (bucket + 1 < length read) × (low ≡ slice_index read bucket)
    × (high ≡ slice_index read (bucket + 1)) → IsHead 32 keys first low
    × IsHead 32 keys (first + 1) high
bucket_at {keys} {heads} {read} {first} {bucket} index same is (inside, at_low, at_high) =
    grind arith

module _ {T : Type 0} (key_of : T → ℕ) (items : List T) (first : ℕ) where
  first_at : (k : ℕ) (d : T) → k < length items
      → first_of (get_or (map key_of items) k 0) ≡ first_of (key_of (get_or items k d))
  first_at k d inside = ap first_of (get_or-map _ _ k d 0 inside)

  -- no item has a first number that has no bucket
  pub none_behind : (heads : List ℕ) → IsIndex (map key_of items) 32 heads
      → length heads ≤ first + 1 → AreOfFirst key_of items first []
  none_behind heads index past = grind (arith, length-map, first_at)

  module _ {low high : ℕ} (at_low : IsHead 32 (map key_of items) first low)
      (at_high : IsHead 32 (map key_of items) (first + 1) high) where
    pub ordered : low ≤ high
    ordered = heads_rise _ _ at_low at_high

    pub inside_all : high ≤ length items
    inside_all = omega (arith, length-map items key_of)

    first_is : (k : ℕ) (d : T) → k < high - low
        → first_of (key_of (get_or items (low + k) d)) ≡ first
    first_is k d lt =
        let size = length-map items key_of in
        let inside : low + k < length items = omega arith in
        let same = first_at _ d inside in
        omega (
          arith,
          at_low.above (low + k) (omega arith) (omega (arith, inside, size)),
          at_high.below (low + k) (omega (arith, lt)),
        )

    -- the items of a bucket are those of its first number
    pub are_of_first : IsStrictlyIncreasing (map key_of items)
        → AreOfFirst key_of items first (slice_range items low high)
    are_of_first rise = record {
      only = λ k d lt.
          let small : k < high - low = omega (arith, part_length items low high inside_all) in
          rw (part_at items low high k d small) (
            Contains-get_or items (low + k) d (omega (arith, small, inside_all)),
            first_is k d small,
          );
      each = λ item (k, inside, same) is.
          let size = length-map items key_of in
          let here = first_at k item inside ∙ ap (λ (i : T). first_of (key_of i)) same ∙ is in
          let from : k < low → ⊥ = λ lt. omega (arith, at_low.below k lt) in
          let below : high ≤ k → ⊥ = λ ge. omega (arith, at_high.above k ge (omega arith)) in
          let small : k - low < high - low = omega arith in
          let place : low + (k - low) ≡ k = omega arith in (
            k - low,
            omega (arith, part_length items low high inside_all),
            part_at items low high (k - low) item small
                ∙ ap (λ (n : ℕ). get_or items n item) place ∙ same,
          );
      rising = rw (part_keys key_of items low high)
          (part_rises (map key_of items) low high ordered at_high.within rise);
    }
