-- The least remaining totals of a table, from the last layer backwards.
use Rattle.olr_keys.proofs.Bounds.{each_more}
use Rattle.olr_keys.proofs.Common.{◌≡◌, ℕ, ◌+◌, ◌-◌, ◌<◌, ◌≤◌, ◌⊎◌, min, List, [], ◌∷◌, ◌++◌, length, Option, Some, None, inl, inr, sym, ◌∙◌, ap, subst, arith, slice_index_or, Vec, get_or-eq_default, min-le_left, min-le_right, cases_lt, cases_eq, Penalties, IsTable, count_of, penalty_at, leg_at, max_total, AreBoundsOf, AreFirstBounds, AreLastBounds, IsBound, IsLeastNumber, IsTotalThrough, lesser_of, lists_of}
use Rattle.std.proofs.lemmas.List.{length-append, length-map, map-append}
use Rattle.olr_keys.proofs.Completions.{same_some}
use Rattle.olr_keys.proofs.Remaining.{IsTotalBy, remaining_by, by_remaining}
use Rattle.olr_keys.proofs.Sizes.{remaining_below, width_at_most}

-- ---- the least number

-- of what holds of the same numbers
same_least : (P Q : ℕ → Type 0) (found : Option ℕ) → ((number : ℕ) → P number → Q number)
    → ((number : ℕ) → Q number → P number) → IsLeastNumber P found → IsLeastNumber Q found
same_least P Q None to from none = λ number holds. none number (from number holds)
same_least P Q (Some least) to from (is, first) =
    (to least is, λ number holds. first number (from number holds))

either_min : (P : ℕ → Type 0) (a b : ℕ) → P a → P b → P (min a b)
either_min P a b one other = grind (arith, cases_lt)

-- of one thing or another
least_of_both : {P Q : ℕ → Type 0} (R : ℕ → Type 0) (a b : Option ℕ)
    → ((number : ℕ) → P number → R number) → ((number : ℕ) → Q number → R number)
    → ((number : ℕ) → R number → P number ⊎ Q number)
    → IsLeastNumber P a → IsLeastNumber Q b → IsLeastNumber R (lesser_of a b)
least_of_both {Q} R None b one other split none is = grind (arith, same_least)
least_of_both R (Some a) None one other split is none = grind arith
least_of_both R (Some a) (Some b) one other split is also =
    grind (arith, either_min, min-le_left, min-le_right)

pub bound_at_most : {p : Penalties} (layer rank bound : ℕ) (found : Option ℕ) → IsTable p
    → IsBound p layer rank found → found ≡ Some bound → bound ≤ max_total
bound_at_most layer rank bound None sound is same = absurd cc
bound_at_most layer rank bound (Some n) sound is same =
    let equal : n ≡ bound = cc in
    omega (arith, remaining_below _ _ _ _ is.0, width_at_most _ sound)

-- ---- one candidate of the next layer

module _ (p : Penalties) {second : ℕ} (layer rank penalty : ℕ) where
  pub through_none : (bound : Option ℕ) → bound ≡ None → IsBound p (layer + 1) second bound
      → IsLeastNumber (IsTotalThrough p layer rank penalty second) None
  through_none None is none = λ total (leg, rest, joined, on, sum). none rest on
  through_none (Some n) is bound = absurd cc

  pub through_some : {leg further total : ℕ} (bound : Option ℕ) → bound ≡ Some further
      → leg_at p (layer + 1) rank second ≡ Some leg → total ≡ penalty + leg + further
      → IsBound p (layer + 1) second bound
      → IsLeastNumber (IsTotalThrough p layer rank penalty second) (Some total)
  through_some None same joined sum bound = absurd cc
  through_some {leg} {further} (Some n) same joined sum (on, least) =
      let equal : n ≡ further = cc in (
        (leg, n, joined, on, omega arith),
        λ other (leg', rest, joined', on', sum'). omega (
          arith,
          least rest on',
          same_some leg' leg joined' joined,
        ),
      )

-- ---- one candidate

module _ (p : Penalties) (layer rank penalty count : ℕ) where
  pub least_more : (least other : Option ℕ)
      → IsLeastNumber (IsTotalBy p layer rank penalty count) least
      → IsLeastNumber (IsTotalThrough p layer rank penalty (count + 1)) other
      → IsLeastNumber (IsTotalBy p layer rank penalty (count + 1)) (lesser_of least other)
  least_more least other = least_of_both _ _ _
      (λ total (second, leg, rest, low, high, joined, on, sum).
      (second, leg, rest, low, omega arith, joined, on, sum))
      (λ total (leg, rest, joined, on, sum).
      (count + 1, leg, rest, omega arith, omega arith, joined, on, sum))
      (λ total (second, leg, rest, low, high, joined, on, sum). elim (cases_eq second (count + 1)) [
        | inl same ↦ inr (leg, rest, rw (← same) joined, rw (← same) on, sum)
        | inr before ↦ inl (second, leg, rest, low, omega arith, joined, on, sum)
      ])

  -- with all candidates of the next layer
  pub least_whole : (least : Option ℕ) → layer + 1 < length p.candidates
      → penalty_at p layer rank ≡ Some penalty → count ≡ count_of p (layer + 1)
      → IsLeastNumber (IsTotalBy p layer rank penalty count) least → IsBound p layer rank least
  least_whole least inside there all = same_least _ _ _
      (λ total by. remaining_by _ _ _ _ _ _ there by)
      (λ total on. rw all (by_remaining _ _ _ inside there on))

-- ---- the bounds of a layer

pub push_bound : (p : Penalties) (layer index : ℕ) {pushed : List (Option ℕ)}
    (bounds : List (Option ℕ)) (bound : Option ℕ) → AreFirstBounds p layer index bounds
    → IsBound p layer (index + 1) bound
    → pushed ≡ bounds ++ bound ∷ [] → AreFirstBounds p layer (index + 1) pushed
push_bound p layer index bounds bound they it is = rw is (record {
  long = omega (arith, length-append bounds (bound ∷ []));
  each = each_more (λ k. IsBound p layer (k + 1)) None index bounds bound they.long they.each it;
})

-- ---- the bounds of all layers

-- after the last layer there are no candidates
none_later : (p : Penalties) (layer : ℕ) → layer ≡ length p.candidates → AreBoundsOf p layer []
none_later p layer is = grind (arith, get_or-eq_default)

-- the bounds of the layer after the next one
pub next_bounds : (p : Penalties) (later layer : ℕ) (least : List (Vec (Option ℕ)))
    (bounds : List (Option ℕ)) → AreLastBounds p later (lists_of least)
    → later < length p.candidates
    → layer ≡ length p.candidates - 1 - later
    → bounds ≡ slice_index_or (lists_of least) (length least - 1) []
    → AreBoundsOf p (layer + 1) bounds
next_bounds p later layer least bounds they inside position is =
    let long : length least ≡ later =
    cc (length-map least (λ (layer : Vec (Option ℕ)). layer.items)) in
    elim (cases_lt 0 later) [
      | inl some ↦
          let here : slice_index_or (lists_of least) (later - 1) [] ≡ bounds = cc in
          subst (λ (n : ℕ). AreBoundsOf p n bounds) {x = length p.candidates - 1 - (later - 1)}
          (omega arith) (
          rw (← here) (they.each (later - 1) (omega arith)))
      | inr none ↦
          let empty : slice_index_or (lists_of least) (length least - 1) [] ≡ [] =
          get_or-eq_default (lists_of least) [] {n = length least - 1} (omega arith) in
          rw (← (sym empty ∙ sym is)) (none_later _ _ (omega arith))
    ]

pub push_bounds : (p : Penalties) {layer : ℕ} (later : ℕ) (least pushed : List (Vec (Option ℕ)))
    (bounds : Vec (Option ℕ)) → AreLastBounds p later (lists_of least)
    → layer ≡ length p.candidates - 1 - later → AreBoundsOf p layer bounds.items
    → pushed ≡ least ++ bounds ∷ [] → AreLastBounds p (later + 1) (lists_of pushed)
push_bounds p later least pushed bounds they position it is =
    let items : Vec (Option ℕ) → List (Option ℕ) = λ v. v.items in
    let same : lists_of pushed ≡ lists_of least ++ bounds.items ∷ [] =
    cc (map-append items least (bounds ∷ [])) in
    rw same (record {
      layers = omega (arith, length-append (lists_of least) (bounds.items ∷ []));
      each = each_more (λ k. AreBoundsOf p (length p.candidates - 1 - k)) [] later (lists_of least)
          bounds.items they.layers they.each (rw (← position) it);
    })

-- the bound of a candidate, where it is held
pub held_bound : (p : Penalties) {shown : List (Vec (Option ℕ))} (least : List (Vec (Option ℕ)))
    (bounds : List (Option ℕ)) {bound : Option ℕ} {rank : ℕ} (layer later index : ℕ)
    → AreLastBounds p (length p.candidates) (lists_of least)
    → layer < length p.candidates → 1 ≤ rank → rank ≤ count_of p layer
    → later ≡ length p.candidates - 1 - layer → index ≡ rank - 1 → shown ≡ least
    → bounds ≡ slice_index_or (lists_of shown) later [] → bound ≡ slice_index_or bounds index None
    → IsBound p layer rank bound
held_bound p least bounds layer later index they inside low high later_is index_is same bounds_are
    bound_is =
    let here : AreBoundsOf p layer bounds =
    rw (← (ap (λ (l : List (Vec (Option ℕ))). slice_index_or (lists_of l) later []) (sym same)
    ∙ sym bounds_are)) (
    subst (λ (n : ℕ). AreBoundsOf p n (slice_index_or (lists_of least) later [])) {x =
    length p.candidates - 1 - later} (omega arith) (they.each later (omega arith))) in
    rw bound_is (
    subst (λ (n : ℕ). IsBound p layer n (slice_index_or bounds index None)) {x = index + 1}
    (omega arith) (here.each index (omega arith)))
