-- What the inner steps of the search by rows find: the first completion with a total, and the first
-- one after another. No public call states these: a reader of the contracts may skip this file.
use Rattle.std.specs.Prelude.{◌≡◌, ℕ, ◌+◌, ◌<◌, ◌≤◌, ◌⊎◌, List, [], ◌∷◌, ◌++◌, slice_index, Option, Some}
use Rattle.olr_keys.specs.Table.{Penalties}
use Rattle.olr_keys.specs.Key.{AreBefore}
use Rattle.olr_keys.specs.Matching.{IsCompletion}
use Rattle.olr_keys.specs.Rows.{IsStep, IsTotal}

-- What a look at a candidate finds, by the penalties of the leg to it and of the candidate, and by
-- its row: the rest of a total is these penalties and what is left, and the row marks the
-- candidate's penalty and what is left.
pub record IsLeft (leg penalty : ℕ) (row : List ℕ) (rest left : ℕ) : Type 0 where
  pub sum : rest ≡ leg + penalty + left
  pub marked : 0 < slice_index row (penalty + left)

-- the step to the first candidate of a layer with a rank greater than `above` that has one
pub record IsFirstStep (penalties : Penalties) (layer : ℕ) (before : Option ℕ)
    (above rest rank left : ℕ) : Type 0 where
  pub greater : above < rank
  pub step : IsStep penalties layer before rank rest left
  pub first : (other less : ℕ) → above < other → other < rank
      → IsStep penalties layer before other rest less → ⊥

-- no candidate with a rank greater than `above` has a step
abbrev pub HasNoStep : Penalties → ℕ → Option ℕ → ℕ → ℕ → Type 0
HasNoStep penalties layer before above rest = (rank left : ℕ) → above < rank
    → IsStep penalties layer before rank rest left → ⊥

-- some completion has this total
abbrev pub HasCompletion : Penalties → ℕ → Option ℕ → ℕ → Type 0
HasCompletion penalties layer before total = (ranks : List ℕ)
    × IsCompletion penalties layer before ranks total

-- the first completion with this total, by its ranks
pub record IsFirstCompletion (penalties : Penalties) (layer : ℕ) (before : Option ℕ) (total : ℕ)
    (ranks : List ℕ) : Type 0 where
  pub completion : IsCompletion penalties layer before ranks total
  pub first : (other : List ℕ) → IsCompletion penalties layer before other total → (other ≡ ranks)
      ⊎ AreBefore ranks other

-- the first completion with this total among those whose first rank is greater than `above`
abbrev pub IsFirstAbove : Penalties → ℕ → Option ℕ → ℕ → ℕ → List ℕ → Type 0
IsFirstAbove penalties layer before above total [] = ⊥
IsFirstAbove penalties layer before above total (rank ∷ ranks) =
    (left : ℕ) × IsFirstStep penalties layer before above total rank left
    × IsFirstCompletion penalties (layer + 1) (Some rank) left ranks

-- the first of the completions with this total that come after another one
pub record IsNextCompletion (penalties : Penalties) (layer : ℕ) (before : Option ℕ) (total : ℕ)
    (after ranks : List ℕ) : Type 0 where
  pub completion : IsCompletion penalties layer before ranks total
  pub later : AreBefore after ranks
  pub first : (other : List ℕ) → IsCompletion penalties layer before other total
      → AreBefore after other → (other ≡ ranks) ⊎ AreBefore ranks other

-- no completion with this total comes after another one
abbrev pub HasNoNextCompletion : Penalties → ℕ → Option ℕ → ℕ → List ℕ → Type 0
HasNoNextCompletion penalties layer before total after = (other : List ℕ)
    → IsCompletion penalties layer before other total → AreBefore after other → ⊥

-- the longer list is these ranks and then a list of which this holds
abbrev pub Appends : List ℕ → List ℕ → (List ℕ → Type 0) → Type 0
Appends ranks longer P = (found : List ℕ) × (longer ≡ ranks ++ found) × P found

-- the least total of a matching from a number on
pub record IsFirstTotal (penalties : Penalties) (from total : ℕ) : Type 0 where
  pub at_least : from ≤ total
  pub has : IsTotal penalties total
  pub first : (other : ℕ) → from ≤ other → other < total → IsTotal penalties other → ⊥
