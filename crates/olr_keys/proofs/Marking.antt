-- Rows that mark numbers.
use Rattle.std.proofs.lemmas.Grind.{common_steps}
use Rattle.olr_keys.proofs.Ranges.{rank_inside}
use Rattle.olr_keys.proofs.Bounds.{each_more}
use Rattle.olr_keys.proofs.Common.{◌≡◌, ℕ, ◌+◌, ◌<◌, ◌≤◌, ◌⊎◌, List, [], ◌∷◌, ◌++◌, length, add-zero, set, replicate, slice_index, bit_or, Some, None, inl, inr, refl, sym, arith, slice_index_or, get_or, Vec, get_or-eq_default, cases_lt, cases_eq, Penalties, IsTable, count_of, penalty_at, leg_at, IsRemainingTotal, IsCompletion, AreRowsOf, IsRowOf, IsTotal, rows_of, width_of}
use Rattle.std.proofs.lemmas.List.{length-replicate, get_or-replicate, get_or-map, length-map, length-append, map-append}
use Rattle.std.proofs.lemmas.Nat.{le_or_l, le_or_r}
use Rattle.olr_keys.specs.Shifted.{IsOrShifted}
use Rattle.olr_keys.proofs.Remaining.{IsTotalBy, remaining_last, only_last, remaining_by, by_remaining}
use Rattle.olr_keys.proofs.Sizes.{remaining_below}

zero_at : (width number : ℕ) → slice_index (replicate width 0) number ≡ 0
zero_at width number =
    grind (arith, cases_lt, get_or-replicate, get_or-eq_default, length-replicate)

-- a row of zeros marks nothing
pub empty_row : {P : ℕ → Type 0} (width : ℕ) → ((number : ℕ) → P number → ⊥)
    → IsRowOf P width (replicate width 0)
empty_row width none = grind (arith, common_steps, length-replicate, zero_at)

-- a row with one byte
pub one_row : {P : ℕ → Type 0} (width one : ℕ) → one < width → P one
    → ((number : ℕ) → P number → number ≡ one) → IsRowOf P width (set (replicate width 0) one 1)
one_row width one inside holds only =
    grind (arith, common_steps, length-replicate, cases_eq, zero_at)

-- two bytes joined are 0 exactly where both are
joined_some : (a b : ℕ) → 0 < bit_or a b → (0 < a) ⊎ (0 < b)
joined_some a b some = grind (arith, cases_lt)

-- a row joined with another one
pub row_joined : {P Q R : ℕ → Type 0} {width : ℕ} (shift : ℕ) {row other after : List ℕ}
    → ((number : ℕ) → P number → R number) → ((number : ℕ) → Q number → R (number + shift))
    → ((number : ℕ) → R number → number < width)
    → ((number : ℕ) → R number → P number ⊎ ((rest : ℕ) × (Q rest × (number ≡ rest + shift))))
    → IsRowOf P width row → IsRowOf Q width other → IsOrShifted row other shift after
    → IsRowOf R width after
row_joined {R} {width} shift {row} {other} {after} from_row from_other below split it that joined =
    grind (arith, common_steps, cases_lt, joined_some, get_or-eq_default, split, le_or_l, le_or_r)

-- a row of a property marks what is the same
pub row_same : {P Q : ℕ → Type 0} {width : ℕ} {row : List ℕ} → ((number : ℕ) → P number → Q number)
    → ((number : ℕ) → Q number → P number) → IsRowOf P width row → IsRowOf Q width row
row_same to from it = grind arith

-- ---- the totals with one candidate more

module _ (p : Penalties) (layer rank penalty count : ℕ) where
  more : (total : ℕ) → IsTotalBy p layer rank penalty count total
      → IsTotalBy p layer rank penalty (count + 1) total
  more total (second, leg, rest, least, most, joined, on, sum) =
      (second, leg, rest, least, omega arith, joined, on, sum)

  -- with one of the first candidates, or with the next one
  split : (total : ℕ) → IsTotalBy p layer rank penalty (count + 1) total
      → IsTotalBy p layer rank penalty count total
      ⊎ ((leg : ℕ) × (rest : ℕ) × (leg_at p (layer + 1) rank (count + 1) ≡ Some leg)
      × IsRemainingTotal p (layer + 1) (count + 1) rest × (total ≡ rest + (penalty + leg)))
  split total (second, leg, rest, least, most, joined, on, sum) =
      grind (arith, cases_eq second (count + 1))

  -- there is no leg to the next one
  pub row_without : {width : ℕ} {row : List ℕ} → leg_at p (layer + 1) rank (count + 1) ≡ None
      → IsRowOf (IsTotalBy p layer rank penalty count) width row
      → IsRowOf (IsTotalBy p layer rank penalty (count + 1)) width row
  row_without none = row_same more (λ total holds. elim (split _ holds) [
    | inl before ↦ before
    | inr (leg, rest, joined, on, sum) ↦ absurd cc
  ])

  -- there is a leg to it
  pub row_with : (width leg : ℕ) (row other after : List ℕ)
      → leg_at p (layer + 1) rank (count + 1) ≡ Some leg
      → ((total : ℕ) → IsTotalBy p layer rank penalty (count + 1) total → total < width)
      → IsRowOf (IsTotalBy p layer rank penalty count) width row
      → IsRowOf (IsRemainingTotal p (layer + 1) (count + 1)) width other
      → IsOrShifted row other (penalty + leg) after
      → IsRowOf (IsTotalBy p layer rank penalty (count + 1)) width after
  row_with width leg row other after is below = row_joined _
      more
      (λ rest on. (count + 1, leg, rest, omega arith, omega arith, is, on, refl))
      below
      (λ total holds. elim (split _ holds) [
        | inl before ↦ inl before
        | inr (leg', rest, joined, on, sum) ↦ let same : leg' ≡ leg = cc in
            inr (rest, (on, omega arith))
      ])

-- ---- the row of a candidate

-- a candidate with a leg to none of no candidates: the row is empty
pub start_row : (p : Penalties) {width : ℕ} (layer rank penalty count : ℕ) → count ≡ 0
    → IsRowOf (IsTotalBy p layer rank penalty count) width (replicate width 0)
start_row p layer rank penalty count is =
    empty_row _ (λ total (second, leg, rest, least, most, joined, on, sum). absurd (omega arith))

-- with all candidates of the next layer
pub whole_row : (p : Penalties) {rank penalty count : ℕ} (layer : ℕ) {row : List ℕ}
    → layer + 1 < length p.candidates → penalty_at p layer rank ≡ Some penalty
    → count ≡ count_of p (layer + 1)
    → IsRowOf (IsTotalBy p layer rank penalty count) (width_of p) row
    → IsRowOf (IsRemainingTotal p layer rank) (width_of p) row
whole_row p layer inside there all = row_same
    (λ total by. remaining_by _ _ _ _ _ _ there by)
    (λ total on. rw all (by_remaining _ _ _ inside there on))

-- the row of a candidate of the last layer
pub last_row : (p : Penalties) (layer rank penalty index : ℕ) (row : List ℕ)
    → layer + 1 ≡ length p.candidates → penalty_at p layer rank ≡ Some penalty → index ≡ penalty
    → row ≡ replicate (width_of p) 0
    → (index < length row) × IsRowOf (IsRemainingTotal p layer rank) (width_of p) (set row index 1)
last_row p layer rank penalty index row last there same empty =
    let on = remaining_last _ _ _ last there in
    let inside = remaining_below _ _ _ _ on in
    rw (empty, same) (
      rw (length-replicate {A = ℕ} (width_of p) 0) inside,
      one_row _ _ inside on (λ total other. only_last _ _ _ last there other),
    )

-- ---- the rows of a layer

pub next_row : {p : Penalties} (layer : ℕ) (rows : List (Vec ℕ)) {index : ℕ} {row : Vec ℕ}
    → AreRowsOf p layer (rows_of rows) → index < length rows → row ≡ get_or rows index row
    → IsRowOf (IsRemainingTotal p layer (index + 1)) (width_of p) row.items
next_row layer rows {index} {row} they inside is =
    let items : Vec ℕ → List ℕ = λ v. v.items in
    let here : slice_index_or (rows_of rows) index [] ≡ row.items =
    cc (get_or-map items rows index row [] inside) in
    rw (← here) (they.each index (omega (arith, length-map rows items)))

-- the totals with one candidate more, where there is a leg to it
pub row_more : (p : Penalties) {count shift : ℕ} (layer rank penalty leg : ℕ) {other after : List ℕ}
    (row item written : List ℕ) → penalty_at p layer rank ≡ Some penalty
    → leg_at p (layer + 1) rank (count + 1) ≡ Some leg → shift ≡ penalty + leg → other ≡ item
    → after ≡ written
    → IsRowOf (IsTotalBy p layer rank penalty count) (width_of p) row
    → IsRowOf (IsRemainingTotal p (layer + 1) (count + 1)) (width_of p) item
    → IsOrShifted row other shift written
    → IsRowOf (IsTotalBy p layer rank penalty (count + 1)) (width_of p) after
row_more p layer rank penalty leg row item written there joined moved same is it that or =
    let moved_by : IsOrShifted row item (penalty + leg) written = rw (← moved) (rw (← same) or) in
    rw is (row_with _ _ _ _ _
    (width_of p)
    leg
    row
    item
    written
    joined
    (λ total by. remaining_below _ _ _ _ (remaining_by _ _ _ _ _ _ there by))
    it
    that
    moved_by)

-- the rows of the first candidates of a layer
pub record AreFirstRows (p : Penalties) (layer count : ℕ) (rows : List (List ℕ)) : Type 0 where
  pub long : length rows ≡ count
  pub each : (index : ℕ) → index < count
      → IsRowOf (IsRemainingTotal p layer (index + 1)) (width_of p) (slice_index_or rows index [])

pub push_row : (p : Penalties) (layer index : ℕ) (rows pushed : List (Vec ℕ)) (row : Vec ℕ)
    → AreFirstRows p layer index (rows_of rows)
    → IsRowOf (IsRemainingTotal p layer (index + 1)) (width_of p) row.items
    → pushed ≡ rows ++ row ∷ [] → AreFirstRows p layer (index + 1) (rows_of pushed)
push_row p layer index rows pushed row they it is =
    let items : Vec ℕ → List ℕ = λ v. v.items in
    let same : rows_of pushed ≡ rows_of rows ++ row.items ∷ [] =
    cc (map-append items rows (row ∷ [])) in
    rw same (record {
      long = omega (arith, length-append (rows_of rows) (row.items ∷ []));
      each = each_more (λ k. IsRowOf (IsRemainingTotal p layer (k + 1)) (width_of p)) [] index
          (rows_of rows) row.items they.long they.each it;
    })

-- ---- the row of all totals

-- the total of a matching by one of the first candidates of the first layer
abbrev pub IsTotalAmong : Penalties → ℕ → ℕ → Type 0
IsTotalAmong p count total = (rank : ℕ) × (1 ≤ rank) × (rank ≤ count)
    × IsRemainingTotal p 0 rank total

pub total_row_more : (p : Penalties) (count : ℕ) {row item other after : List ℕ} → other ≡ item
    → IsRowOf (IsTotalAmong p count) (width_of p) row
    → IsRowOf (IsRemainingTotal p 0 (count + 1)) (width_of p) item → IsOrShifted row other 0 after
    → IsRowOf (IsTotalAmong p (count + 1)) (width_of p) after
total_row_more p count same it that or = row_joined
    0
    (λ total (rank, least, most, on). (rank, least, omega arith, on))
    (λ total on. (count + 1, omega arith, omega arith, rw (add-zero total) on))
    (λ total (rank, least, most, on). remaining_below _ 0 _ _ on)
    (λ total (rank, least, most, on). elim (cases_eq rank (count + 1)) [
      | inl last ↦ inr (total, (rw (← last) on, sym (add-zero total)))
      | inr before ↦ inl (rank, least, omega arith, on)
    ])
    it
    that
    (rw (← same) or)

among_of : {p : Penalties} {count total : ℕ} (ranks : List ℕ) → IsTable p → count ≡ count_of p 0
    → IsCompletion p 0 None ranks total → IsTotalAmong p count total
among_of [] sound all completion = absurd (omega arith)
among_of {p} (rank ∷ ranks) sound all (leg, penalty, rest, joined, there, later, sum) =
    let position = rank_inside p 0 rank penalty there in
    (rank, position.0, omega arith, (ranks, (leg, penalty, rest, joined, there, later, sum)))

pub whole_totals : {p : Penalties} {count : ℕ} {row : List ℕ} → IsTable p → count ≡ count_of p 0
    → IsRowOf (IsTotalAmong p count) (width_of p) row → IsRowOf (IsTotal p) (width_of p) row
whole_totals sound all = row_same
    (λ total (rank, least, most, (ranks, completion)). (rank ∷ ranks, completion))
    (λ total (ranks, completion). among_of _ sound all completion)
