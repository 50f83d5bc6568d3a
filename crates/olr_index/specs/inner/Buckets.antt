-- Keys in buckets, each of those keys that are the same but for so many of their last bits. `heads`
-- has for each bucket how many keys are in buckets before it.
use Rattle.std.specs.Prelude.{ℕ, ◌+◌, ◌/◌, ◌^◌, ◌<◌, ◌≤◌, List, length, slice_index}
use Rattle.std.specs.List.Sorted.{IsStrictlyIncreasing}

-- so many keys are in buckets before this one
pub record IsHead (shift : ℕ) (keys : List ℕ) (bucket head : ℕ) : Type 0 where
  pub within : head ≤ length keys
  pub below : (k : ℕ) → k < head → slice_index keys k / 2 ^ shift < bucket
  pub above : (k : ℕ) → head ≤ k → k < length keys → bucket ≤ slice_index keys k / 2 ^ shift

-- the same of each bucket
abbrev pub AreHeads : ℕ → List ℕ → List ℕ → Type 0
AreHeads shift keys heads = (bucket : ℕ) → bucket < length heads
    → IsHead shift keys bucket (slice_index heads bucket)

-- each key has a bucket with a head, and a head behind it
abbrev pub FitsBuckets : ℕ → List ℕ → ℕ → Type 0
FitsBuckets shift keys count = (k : ℕ) → k < length keys
    → slice_index keys k / 2 ^ shift + 1 < count

-- what an index of rising keys keeps
pub record IsIndex (keys : List ℕ) (shift : ℕ) (heads : List ℕ) : Type 0 where
  pub rise : IsStrictlyIncreasing keys
  pub at_most : length keys < 2 ^ 32
  pub small : shift < 64
  pub heads_of : AreHeads shift keys heads
  pub fits : FitsBuckets shift keys (length heads)
