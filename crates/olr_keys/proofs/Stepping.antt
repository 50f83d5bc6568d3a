-- What a byte of a row says of a step.
use Rattle.olr_keys.proofs.Common.{◌≡◌, ℕ, ◌+◌, ◌-◌, ◌<◌, List, [], length, map, Option, Some, None, sym, ◌∙◌, ap, subst, arith, slice_index_or, MatchOption, Vec, length-map, Penalties, count_of, penalty_at, leg_to, IsRemainingTotal, AreLastLayers, AreRowsOf, IsRowOf, IsStep, rows_of, layers_of, width_of}
use Rattle.olr_keys.specs.Search.{IsLeft}
use Rattle.olr_keys.proofs.Layers.{layer_at}
use Rattle.olr_keys.proofs.Completions.{same_some}
use Rattle.olr_keys.proofs.Marking.{next_row}

-- the rows of a layer
pub rows_of_layer : (p : Penalties) {shown : List (Vec (Vec ℕ))} (marks : List (Vec (Vec ℕ)))
    (rows : List (Vec ℕ)) {layer : ℕ} (later : ℕ)
    → AreLastLayers p (length p.candidates) (layers_of marks) → layer < length p.candidates
    → later ≡ length p.candidates - 1 - layer → shown ≡ marks
    → rows ≡ slice_index_or (map (λ (rows : Vec (Vec ℕ)). rows.items) shown) later []
    → AreRowsOf p layer (rows_of rows)
rows_of_layer p marks rows later they inside position same rows_are =
    let lists : List (Vec (Vec ℕ)) → List (List (Vec ℕ)) =
    λ marks. map (λ (rows : Vec (Vec ℕ)). rows.items) marks in
    rw (← (layer_at marks later ∙ ap
    (λ (m : List (Vec (Vec ℕ))). rows_of (slice_index_or (lists m) later [])) (sym same)
    ∙ ap rows_of (sym rows_are))) (
    subst (λ (n : ℕ). AreRowsOf p n (slice_index_or (layers_of marks) later [])) {x =
    length p.candidates - 1 - later} (omega arith) (they.each later (omega arith)))

-- ---- a look at a candidate: the leg to it, its penalty and its row

module _ (p : Penalties) (layer : ℕ) (before : Option ℕ) (rank rest leg penalty : ℕ) (row : List ℕ)
    (joined : leg_to p layer before rank ≡ Some leg)
    (there : penalty_at p layer rank ≡ Some penalty)
    (marks : IsRowOf (IsRemainingTotal p layer rank) (width_of p) row) where
  step_of_left : (left : ℕ) → IsLeft leg penalty row rest left
      → IsStep p layer before rank rest left
  step_of_left left it = grind arith

  left_of_step : (left : ℕ) → IsStep p layer before rank rest left
      → IsLeft leg penalty row rest left
  left_of_step left step = grind (arith, same_some)

  step_by : (found : Option ℕ) → MatchOption found ((left : ℕ) → IsLeft leg penalty row rest left
      → ⊥) (IsLeft leg penalty row rest)
      → MatchOption found ((left : ℕ) → IsStep p layer before rank rest left → ⊥)
      (IsStep p layer before rank rest)
  step_by None none = λ left step. none left (left_of_step _ step)
  step_by (Some left) it = step_of_left _ it

-- the same by the row at the candidate's index in the rows of its layer
pub look : (p : Penalties) (layer : ℕ) (before : Option ℕ) {index : ℕ} (rank rest leg penalty : ℕ)
    (rows : List (Vec ℕ)) {row : Vec ℕ} (shown : List ℕ) (found : Option ℕ)
    → leg_to p layer before rank ≡ Some leg → penalty_at p layer rank ≡ Some penalty
    → AreRowsOf p layer (rows_of rows) → index + 1 ≡ rank → index < count_of p layer
    → row ≡ slice_index_or rows index row → shown ≡ row.items
    → MatchOption found ((left : ℕ) → IsLeft leg penalty shown rest left → ⊥)
    (IsLeft leg penalty shown rest)
    → MatchOption found ((left : ℕ) → IsStep p layer before rank rest left → ⊥)
    (IsStep p layer before rank rest)
look p layer before rank rest leg penalty rows shown found joined there all position inside row_is
    shown_is =
    let marks : IsRowOf (IsRemainingTotal p layer rank) (width_of p) shown =
    rw (← position) (
    rw shown_is (
    next_row _ _ all (omega (arith, length-map rows (λ (v : Vec ℕ). v.items))) row_is)) in
    step_by _ layer before rank rest leg penalty shown joined there marks found
