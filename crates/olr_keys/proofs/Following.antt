-- One step of the search for the completion after that of a cursor.
use Rattle.std.proofs.Common.{rules}
use Rattle.olr_keys.proofs.Common.{◌≡◌, ℕ, ◌+◌, ◌-◌, ◌*◌, ◌<◌, ◌≤◌, Bool, true, false, List, [], ◌∷◌, ◌++◌, length, Option, Some, refl, ◌∙◌, ap, subst, arith, MatchBool, suc-mul, Penalties, count_of, IsCompletion, IsStep, most_of, Appends, IsFirstAbove, HasNoStep, IsNextCompletion, HasNoNextCompletion}
use Rattle.olr_keys.proofs.Searching.{appends_deeper, next_deeper, next_above, no_next_at_end, none_above, same_later, step_inside, step_layer, step_of_completion}
use Rattle.olr_keys.proofs.Sizes.{count_most}

-- after the last layer
pub none_at_end : (p : Penalties) (layer : ℕ) (before : Option ℕ) (rest : ℕ) (cursor : List ℕ)
    → length cursor ≡ 0 → IsCompletion p layer before cursor rest
    → HasNoNextCompletion p layer before rest cursor
none_at_end p layer before rest [] is completion = no_next_at_end _ _ _ _ completion
none_at_end p layer before rest (rank ∷ ranks) is completion = absurd (omega arith)

module _ (p : Penalties) (layer : ℕ) (before : Option ℕ) {own : ℕ} (rest : ℕ)
    {cursor others : List ℕ} (is : cursor ≡ own ∷ others)
    (completion : IsCompletion p layer before cursor rest) where
  pub cursor_completion : IsCompletion p layer before (own ∷ others) rest
  cursor_completion = subst (λ (l : List ℕ). IsCompletion p layer before l rest) is completion

  -- the cursor's own rank is in the table, and has a step
  pub own_inside : (1 ≤ own) × (own ≤ count_of p layer)
  own_inside = let (left, step, on) = step_of_completion _ _ _ _ _ _ cursor_completion in
      step_inside _ 0 _ _ _ step

  pub own_layer : layer < length p.candidates
  own_layer = let (left, step, on) = step_of_completion _ _ _ _ _ _ cursor_completion in
      step_layer step

  pub own_step : ((left : ℕ) → IsStep p layer before own rest left → ⊥) → ⊥
  own_step none = let (left, step, on) = step_of_completion _ _ _ _ _ _ cursor_completion in
      none left step

  module _ {left : ℕ} (step : IsStep p layer before own rest left) where
    pub others_completion : IsCompletion p (layer + 1) (Some own) others left
    others_completion = same_later _ step refl cursor_completion

    -- found with the same rank
    pub found_deeper : {q : Penalties} {pushed longer : List ℕ} (ranks : List ℕ) → q ≡ p
        → pushed ≡ ranks ++ own ∷ [] → Appends pushed longer
        (IsNextCompletion q (layer + 1) (Some own) left others)
        → Appends ranks longer (IsNextCompletion p layer before rest cursor)
    found_deeper ranks same is_pushed = appends_deeper _ _ _ _ _ _ is_pushed
        (λ found on. rw is (next_deeper step (rw (← same) on)))

    -- found at a greater rank, or not at all
    found_above : (found : List ℕ) → HasNoNextCompletion p (layer + 1) (Some own) left others
        → IsFirstAbove p layer before own rest found
        → IsNextCompletion p layer before rest cursor found
    found_above [] none first_above = absurd first_above
    found_above (rank ∷ found) none (less, first, on) = rw is (next_above step none first on)

    pub above_found : {q r : Penalties} {ranks popped : List ℕ} (final : List ℕ) (answer : Bool)
        → q ≡ p → r ≡ p → popped ≡ ranks → HasNoNextCompletion q (layer + 1) (Some own) left others
        → MatchBool answer (Appends popped final (IsFirstAbove r layer before own rest))
        (HasNoStep r layer before own rest × (final ≡ popped))
        → MatchBool answer (Appends ranks final (IsNextCompletion p layer before rest cursor))
        (HasNoNextCompletion p layer before rest cursor × (final ≡ ranks))
    above_found final true same_q same_r same none (found, longer, first_above) =
        let none_here =
        subst (λ (p : Penalties). HasNoNextCompletion p (layer + 1) (Some own) left others)
        same_q none in
        let above_here = subst (λ (p : Penalties). IsFirstAbove p layer before own rest found)
        same_r first_above in
        (found, longer ∙ ap (λ (l : List ℕ). l ++ found) same, found_above _ none_here above_here)
    above_found final false same_q same_r same none (no_step, stays) =
        let none_here =
        subst (λ (p : Penalties). HasNoNextCompletion p (layer + 1) (Some own) left others)
        same_q none in
        let no_step_here = subst (λ (p : Penalties). HasNoStep p layer before own rest) same_r
        no_step in
        (rw is (none_above _ _ _ step none_here no_step_here), stays ∙ same)

-- ---- the budget of probes

module _ (p : Penalties) {layer own : ℕ} (inside : layer < length p.candidates) (least : 1 ≤ own)
    (most : own ≤ count_of p layer) where
  budget : Penalties → ℕ
  budget q = (length q.candidates - (layer + 1)) * most_of q

  split : (length p.candidates - layer) * most_of p ≡ budget p + most_of p
  unfolding budget
  split = search (rules, arith, most_of, suc-mul)

  pub deeper_probes : {q : Penalties} {tested new : ℕ} (old : ℕ) → q ≡ p → tested ≤ old + 1
      → new ≤ tested + 2 * ((length q.candidates - (layer + 1)) * most_of q)
      → new ≤ old + 2 * ((length p.candidates - layer) * most_of p)
  unfolding budget
  deeper_probes old same one more =
      omega (arith, split, one, more, ap budget same, count_most p layer, least, most)

  pub above_probes : {q r : Penalties} {tested back : ℕ} (old new : ℕ) (answer : Bool) → q ≡ p
      → r ≡ p → tested ≤ old + 1 → back ≤ tested + (length q.candidates - (layer + 1)) * most_of q
      → MatchBool answer (new ≤ back + (count_of r layer - own)
      + (length r.candidates - (layer + 1)) * most_of r) (new ≤ back + (count_of r layer - own))
      → MatchBool answer (new ≤ old + 2 * ((length p.candidates - layer) * most_of p))
      (new ≤ old + (length p.candidates - layer) * most_of p)
  unfolding budget
  above_probes old new true same_q same_r one two more = grind (arith, split, count_most)
  above_probes old new false same_q same_r one two more = grind (arith, split, count_most)
