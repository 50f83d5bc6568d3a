-- The least remaining totals of a table, by which the finder with bounds leaves beginnings of
-- matchings. No public call states these: a reader of the contracts may skip this file.
use Rattle.std.specs.Prelude.{◌≡◌, ℕ, ◌+◌, ◌-◌, ◌<◌, ◌≤◌, min, List, [], ◌∷◌, ◌++◌, length, map, Option, None, Some, MatchOption, slice_index_or}
use Rattle.std.specs.Global.{Vec}
use Rattle.olr_keys.specs.Table.{Penalties, count_of, leg_at}
use Rattle.olr_keys.specs.Key.{KeyValue, IsBefore}
use Rattle.olr_keys.specs.Matching.{IsCompletion, IsRemainingTotal}
use Rattle.olr_keys.specs.Product.{IsJoined}

-- the least number that this holds of: it holds of it, and of none that is less; none where it
-- holds of no number
abbrev pub IsLeastNumber : (ℕ → Type 0) → Option ℕ → Type 0
IsLeastNumber P found = MatchOption found ((number : ℕ) → P number → ⊥) (λ least. P least
    × ((number : ℕ) → P number → least ≤ number))

-- the bound of a candidate: its least remaining total, or none where it has no remaining total
abbrev pub IsBound : Penalties → ℕ → ℕ → Option ℕ → Type 0
IsBound penalties layer rank bound = IsLeastNumber (IsRemainingTotal penalties layer rank) bound

-- a total of a candidate of this penalty with the candidate of the rank `second` in the next layer
abbrev pub IsTotalThrough : Penalties → ℕ → ℕ → ℕ → ℕ → ℕ → Type 0
IsTotalThrough penalties layer rank penalty second total =
    (leg : ℕ) × (rest : ℕ) × (leg_at penalties (layer + 1) rank second ≡ Some leg)
    × IsRemainingTotal penalties (layer + 1) second rest × (total ≡ rest + (penalty + leg))

-- the lesser one of two numbers, if there are two, or the one that there is
abbrev pub lesser_of : Option ℕ → Option ℕ → Option ℕ
lesser_of None other = other
lesser_of (Some number) None = Some number
lesser_of (Some number) (Some other) = Some (min number other)

-- ---- how bounds are held

-- the bounds of the first candidates of a layer, by rank
pub record AreFirstBounds (penalties : Penalties) (layer count : ℕ)
    (bounds : List (Option ℕ)) : Type 0 where
  pub long : length bounds ≡ count
  pub each : (index : ℕ) → index < count
      → IsBound penalties layer (index + 1) (slice_index_or bounds index None)

-- the bounds of all candidates of a layer
abbrev pub AreBoundsOf : Penalties → ℕ → List (Option ℕ) → Type 0
AreBoundsOf penalties layer bounds =
    AreFirstBounds penalties layer (count_of penalties layer) bounds

-- the lists of these vectors
abbrev pub lists_of : List (Vec (Option ℕ)) → List (List (Option ℕ))
lists_of bounds = map (λ (layer : Vec (Option ℕ)). layer.items) bounds

-- the bounds of the last layers of a table, by how many layers follow each
pub record AreLastBounds (penalties : Penalties) (count : ℕ)
    (bounds : List (List (Option ℕ))) : Type 0 where
  pub layers : length bounds ≡ count
  pub each : (later : ℕ) → later < count
      → AreBoundsOf penalties (length penalties.candidates - 1 - later)
      (slice_index_or bounds later [])

-- ---- what the search asks

-- no completion that begins with the candidate of this rank has a total below this one
abbrev pub IsLowerBound : Penalties → ℕ → Option ℕ → ℕ → ℕ → Type 0
IsLowerBound penalties layer before rank least = (ranks : List ℕ) (total : ℕ)
    → IsCompletion penalties layer before (rank ∷ ranks) total → least ≤ total

-- no completion begins with the candidate of this rank
abbrev pub HasNoCompletionBy : Penalties → ℕ → Option ℕ → ℕ → Type 0
HasNoCompletionBy penalties layer before rank = (ranks : List ℕ) (total : ℕ)
    → IsCompletion penalties layer before (rank ∷ ranks) total → ⊥

-- a key is held, and it comes before this one
abbrev pub IsHeldBefore : Option KeyValue → KeyValue → Type 0
IsHeldBefore held key = MatchOption held ⊥ (λ (one : KeyValue). IsBefore one key)

-- each key that completes the beginning with the candidate of this rank comes after the key held
abbrev pub IsLeft : Penalties → Option ℕ → ℕ → List ℕ → ℕ → Option KeyValue → Type 0
IsLeft penalties before total ranks rank held =
    (rest : List ℕ) (more : ℕ) → IsCompletion penalties (length ranks) before (rank ∷ rest) more
    → IsHeldBefore held (record { total = total + more; ranks = ranks ++ rank ∷ rest })

-- a beginning with the candidate of this rank: its total and its ranks
abbrev pub IsLonger : Penalties → Option ℕ → ℕ → List ℕ → ℕ → ℕ → List ℕ → Type 0
IsLonger penalties before total ranks rank longer_total longer =
    (sum : ℕ) × IsJoined penalties (length ranks) before rank sum × (longer_total ≡ total + sum)
    × (longer ≡ ranks ++ rank ∷ [])
