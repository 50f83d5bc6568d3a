-- Rows of remaining totals: their sizes, and what a probe answers. The last part describes how the
-- rows are held inside Rows: a reader of the contracts may skip it, but for AreRows, which says
-- that the bytes that Rows reports are the sum of the lengths of the rows that it holds.
use Rattle.std.specs.Prelude.{◌≡◌, ℕ, ◌+◌, ◌-◌, ◌*◌, ◌<◌, ◌≤◌, max, List, [], ◌∷◌, length, map, Option, Some, None, unwrap_or, slice_index, slice_index_or}
use Rattle.std.specs.List.{sum_by}
use Rattle.std.specs.Global.{Vec}
use Rattle.olr_keys.specs.Table.{Penalties, IsTable, count_of, penalty_at}
use Rattle.olr_keys.specs.Matching.{leg_to, IsCompletion, IsRemainingTotal}

-- ---- sizes

-- the greatest number of a list, 0 where it has none
abbrev pub greatest : List ℕ → ℕ
greatest [] = 0
greatest (number ∷ numbers) = max number (greatest numbers)

-- the greatest penalty of the legs between two layers, 0 where none joins them
abbrev pub greatest_leg : List (Option ℕ) → ℕ
greatest_leg [] = 0
greatest_leg (leg ∷ legs) = max (unwrap_or leg 0) (greatest_leg legs)

-- The width of a table: one more than the sum of the greatest penalty of each layer and of the legs
-- between each two neighbours. Each remaining total is below it.
unfoldable pub width_of : Penalties → ℕ
width_of penalties = sum_by greatest penalties.candidates + sum_by greatest_leg penalties.legs + 1

-- the most candidates that a layer has
unfoldable pub most_of : Penalties → ℕ
most_of penalties = greatest (map length penalties.candidates)

-- how many bytes the rows of a table have: one row of its width for each candidate, and one for the
-- totals
abbrev pub bytes_of : Penalties → ℕ
bytes_of penalties = (sum_by length penalties.candidates + 1) * width_of penalties

-- ---- what a probe answers

-- the total of some matching
abbrev pub IsTotal : Penalties → ℕ → Type 0
IsTotal penalties total = (ranks : List ℕ) × IsCompletion penalties 0 None ranks total

-- what precedes a candidate of a layer: nothing in the first layer, and in each other one a
-- candidate of the layer before
abbrev pub IsPredecessor : Penalties → ℕ → Option ℕ → Type 0
IsPredecessor penalties layer None = layer ≡ 0
IsPredecessor penalties layer (Some first) = (1 ≤ layer) × (1 ≤ first)
    × (first ≤ count_of penalties (layer - 1))

-- What a search sees of the rows: the penalties that they are of, and how many probes were made.
pub record RowsValue : Type 0 where
  pub penalties : Penalties
  pub probes : ℕ

-- A step to a candidate of a layer from the one before it: the rest of a total is the penalty of
-- the leg, that of the candidate, and what is then left; and some completion from the candidate on
-- has exactly the candidate's penalty and what is left.
pub record IsStep (penalties : Penalties) (layer : ℕ) (before : Option ℕ)
    (rank rest left : ℕ) : Type 0 where
  pub leg : ℕ
  pub penalty : ℕ
  pub joined : leg_to penalties layer before rank ≡ Some leg
  pub there : penalty_at penalties layer rank ≡ Some penalty
  pub sum : rest ≡ leg + penalty + left
  pub remaining : IsRemainingTotal penalties layer rank (penalty + left)

-- ---- inside Rows: the rows that are held

-- a row of this width has a byte that isn't 0 exactly at the numbers with a property
pub record IsRowOf (P : ℕ → Type 0) (width : ℕ) (row : List ℕ) : Type 0 where
  pub wide : length row ≡ width
  pub only : (number : ℕ) → 0 < slice_index row number → P number
  pub each : (number : ℕ) → P number → 0 < slice_index row number

-- the rows of a layer: one for each candidate, by rank, which marks its remaining totals
pub record AreRowsOf (penalties : Penalties) (layer : ℕ) (rows : List (List ℕ)) : Type 0 where
  pub count : length rows ≡ count_of penalties layer
  pub each : (index : ℕ) → index < count_of penalties layer
      → IsRowOf (IsRemainingTotal penalties layer (index + 1)) (width_of penalties)
      (slice_index_or rows index [])

-- the rows of these vectors
abbrev pub rows_of : List (Vec ℕ) → List (List ℕ)
rows_of rows = map (λ (row : Vec ℕ). row.items) rows

-- the rows of each layer
abbrev pub layers_of : List (Vec (Vec ℕ)) → List (List (List ℕ))
layers_of marks = map (λ (rows : Vec (Vec ℕ)). rows_of rows.items) marks

-- the rows of the last layers of a table, by how many layers follow each
pub record AreLastLayers (penalties : Penalties) (count : ℕ) (marks : List (List (List ℕ))) : Type 0
  where
    pub layers : length marks ≡ count
    pub each : (later : ℕ) → later < count
        → AreRowsOf penalties (length penalties.candidates - 1 - later)
        (slice_index_or marks later [])

-- how many bytes rows have that are held: the sum of the lengths of all rows of all layers, and the
-- length of the row of totals
abbrev pub held_bytes : List (List (List ℕ)) → List ℕ → ℕ
held_bytes marks totals = sum_by (λ (rows : List (List ℕ)). sum_by length rows) marks
    + length totals

-- All rows of a table, the width of each, and how many bytes are held in them.
pub record AreRows (penalties : Penalties) (marks : List (List (List ℕ))) (totals : List ℕ)
    (wide size : ℕ) : Type 0 where
  pub sound : IsTable penalties
  pub layers : AreLastLayers penalties (length penalties.candidates) marks
  pub whole : IsRowOf (IsTotal penalties) (width_of penalties) totals
  pub width : wide ≡ width_of penalties
  pub bytes : size ≡ held_bytes marks totals
