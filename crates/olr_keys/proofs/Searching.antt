-- The search for a completion, from one layer to the next.
use Rattle.std.proofs.Common.{rules}
use Rattle.olr_keys.proofs.Common.{◌≡◌, ℕ, ◌+◌, ◌-◌, ◌*◌, ◌<◌, ◌≤◌, ◌⊎◌, List, [], ◌∷◌, ◌++◌, length, take, Option, Some, inl, inr, refl, sym, subst, arith, suc-mul, cases_eq, cases_order, Penalties, count_of, penalty_at, AreBefore, IsCompletion, IsRemainingTotal, IsStep, IsPredecessor, Appends, IsFirstStep, HasNoStep, HasCompletion, IsFirstCompletion, IsNextCompletion, HasNoNextCompletion}
use Rattle.std.proofs.lemmas.List.{append-nil, append_assoc, length-append, take_at}
use Rattle.olr_keys.proofs.Ranges.{rank_inside}
use Rattle.olr_keys.proofs.Completions.{layer_inside, same_some}

-- ---- steps

-- no candidate up to a rank has a step
abbrev pub HasNoStepTo : Penalties → ℕ → Option ℕ → ℕ → ℕ → ℕ → Type 0
HasNoStepTo p layer before above rest last = (rank left : ℕ) → above < rank → rank ≤ last
    → IsStep p layer before rank rest left → ⊥

module _ {p : Penalties} {layer : ℕ} (before : Option ℕ) (above rest : ℕ) where
  pub none_more : (last : ℕ) → HasNoStepTo p layer before above rest last
      → ((left : ℕ) → IsStep p layer before (last + 1) rest left → ⊥)
      → HasNoStepTo p layer before above rest (last + 1)
  none_more last none here rank left later within step = elim (cases_eq rank (last + 1)) [
    | inl same ↦ here left (rw (← same) step)
    | inr other ↦ none _ _ later (omega arith) step
  ]

  pub step_inside : (rank left : ℕ) → IsStep p layer before rank rest left → (1 ≤ rank)
      × (rank ≤ count_of p layer)
  step_inside rank left step = rank_inside p layer _ _ step.there

  pub none_at_all : {last : ℕ} → count_of p layer ≤ last
      → HasNoStepTo p layer before above rest last → HasNoStep p layer before above rest
  none_at_all all none rank left later step =
      none _ _ later (omega (arith, step_inside _ _ step)) step

-- what is left is known from the rank
same_left : {p : Penalties} {layer : ℕ} {before : Option ℕ} {rank rest a b : ℕ}
    → IsStep p layer before rank rest a → IsStep p layer before rank rest b → a ≡ b
same_left one other = grind (arith, same_some)

-- ---- completions and steps

-- after a step there is a completion
completion_of_remaining : (p : Penalties) {left : ℕ} (layer rank penalty : ℕ)
    → penalty_at p layer rank ≡ Some penalty → IsRemainingTotal p layer rank (penalty + left)
    → HasCompletion p (layer + 1) (Some rank) left
completion_of_remaining p layer rank penalty there
    (ranks, (leg, own, rest, joined, here, completion, sum)) =
    let none : 0 ≡ leg = cc in (
      ranks,
      subst (IsCompletion p (layer + 1) (Some rank) ranks) {x = rest}
          (omega (arith, same_some _ _ here there)) completion,
    )

pub later_completion : {p : Penalties} {layer : ℕ} {before : Option ℕ} {rank rest left : ℕ}
    → IsStep p layer before rank rest left → HasCompletion p (layer + 1) (Some rank) left
later_completion step = completion_of_remaining _ _ _ _ step.there step.remaining

-- a step and a completion after it
pub completion_of_step : {p : Penalties} {layer : ℕ} {before : Option ℕ} {rank rest left : ℕ}
    (ranks : List ℕ) → IsStep p layer before rank rest left
    → IsCompletion p (layer + 1) (Some rank) ranks left
    → IsCompletion p layer before (rank ∷ ranks) rest
completion_of_step {left} ranks step completion =
    (step.leg, step.penalty, left, step.joined, step.there, completion, step.sum)

-- a completion begins with a step
abbrev pub Begins : Penalties → ℕ → Option ℕ → ℕ → List ℕ → ℕ → Type 0
Begins p layer before rank ranks rest = (left : ℕ) × IsStep p layer before rank rest left
    × IsCompletion p (layer + 1) (Some rank) ranks left

pub step_of_completion : (p : Penalties) (layer : ℕ) (before : Option ℕ) (rank rest : ℕ)
    (ranks : List ℕ) → IsCompletion p layer before (rank ∷ ranks) rest
    → Begins p layer before rank ranks rest
step_of_completion p layer before rank rest ranks
    (leg, penalty, left, joined, there, completion, sum) = grind arith

-- a layer with a step is in the table
pub step_layer : {p : Penalties} {layer : ℕ} {before : Option ℕ} {rank rest left : ℕ}
    → IsStep p layer before rank rest left → layer < length p.candidates
step_layer {p} step = layer_inside p _ _ _ step.there

only_empty : (p : Penalties) {layer : ℕ} (before : Option ℕ) (rest : ℕ) (other : List ℕ)
    → layer ≡ length p.candidates → IsCompletion p layer before other rest → (other ≡ [])
    ⊎ AreBefore [] other
only_empty p before rest [] last there = inl refl
only_empty p before rest (rank ∷ ranks) last there = inr tt

-- in a layer of the table a completion begins with a step, after the last one it is empty
pub empty_completion : {p : Penalties} {layer : ℕ} {before : Option ℕ} {rest : ℕ}
    → layer ≡ length p.candidates → HasCompletion p layer before rest
    → IsFirstCompletion p layer before rest []
empty_completion last ([], completion) = grind (arith, only_empty)
empty_completion last (rank ∷ ranks, completion) =
    let (left, step, later) = step_of_completion _ _ _ _ _ _ completion in
    absurd (omega (arith, step_layer step))

pub some_step : {p : Penalties} {layer : ℕ} {before : Option ℕ} {rest : ℕ}
    → layer < length p.candidates → HasCompletion p layer before rest
    → HasNoStep p layer before 0 rest → ⊥
some_step inside ([], completion) none = omega arith
some_step {before} {rest} inside (rank ∷ ranks, completion) none =
    let (left, step, later) = step_of_completion _ _ _ _ _ _ completion in
    none _ _ (step_inside before 0 rest rank left step).0 step

first_of : {p : Penalties} {layer : ℕ} {before : Option ℕ} {rest rank left : ℕ} {ranks : List ℕ}
    (other : List ℕ) → IsFirstStep p layer before 0 rest rank left
    → IsFirstCompletion p (layer + 1) (Some rank) left ranks
    → IsCompletion p layer before other rest → (other ≡ rank ∷ ranks)
    ⊎ AreBefore (rank ∷ ranks) other
first_of [] step on there = absurd (omega (arith, step_layer step.step))
first_of {p} {layer} {before} {rest} {rank} {left} (second ∷ others) step on there =
    let (less, other_step, later) = step_of_completion _ _ _ _ _ _ there in
    elim (cases_order second rank) [
      | inl same ↦
          let again =
          subst (λ (n : ℕ). IsStep p layer before n rest less) same other_step in
          let left_same = same_left again step.step in
          let completion : IsCompletion p (layer + 1) (Some rank) others left =
          rw (← left_same) (rw (← same) later) in
          elim (on.first others completion) [
            | inl equal ↦ inl (cc)
            | inr before_it ↦ inr (inr (sym same, before_it))
          ]
      | inr (inl lower) ↦ absurd (step.first second less
          (step_inside before 0 rest second less other_step).0 lower other_step)
      | inr (inr higher) ↦ inr (inl higher)
    ]

-- the first completion: the first step, and the first completion after it
pub first_completion : {p : Penalties} {layer : ℕ} {before : Option ℕ} {rest rank left : ℕ}
    {ranks : List ℕ} → IsFirstStep p layer before 0 rest rank left
    → IsFirstCompletion p (layer + 1) (Some rank) left ranks
    → IsFirstCompletion p layer before rest (rank ∷ ranks)
first_completion step on = search (rules, arith, completion_of_step, first_of)

-- ---- the next completion

-- after the last layer no completion comes after another one
pub no_next_at_end : (p : Penalties) (layer : ℕ) (before : Option ℕ) (rest : ℕ)
    → IsCompletion p layer before [] rest → HasNoNextCompletion p layer before rest []
no_next_at_end p layer before rest completion [] there later = later
no_next_at_end p layer before rest completion (rank ∷ ranks) there later =
    let (left, step, on) = step_of_completion _ _ _ _ _ _ there in
    absurd (omega (arith, step_layer step))

-- another completion with the same first rank has what is left after it
pub same_later : {p : Penalties} {layer : ℕ} {before : Option ℕ} {own rank rest left : ℕ}
    (ranks : List ℕ) → IsStep p layer before own rest left → own ≡ rank
    → IsCompletion p layer before (rank ∷ ranks) rest
    → IsCompletion p (layer + 1) (Some own) ranks left
same_later {p} {layer} {before} {own} {rest} ranks step same there =
    grind (arith, step_of_completion, same_left)

-- the next completion has the same first rank, and then the next completion after it
deeper_first : {p : Penalties} {layer : ℕ} {before : Option ℕ} {own rest left : ℕ}
    {others found : List ℕ} (other : List ℕ) → IsStep p layer before own rest left
    → IsNextCompletion p (layer + 1) (Some own) left others found
    → IsCompletion p layer before other rest → AreBefore (own ∷ others) other
    → (other ≡ own ∷ found) ⊎ AreBefore (own ∷ found) other
deeper_first [] step next there later = absurd later
deeper_first (rank ∷ ranks) step next there (inl higher) = inr (inl higher)
deeper_first (rank ∷ ranks) step next there (inr (same, later)) = grind (arith, same_later)

pub next_deeper : {p : Penalties} {layer : ℕ} {before : Option ℕ} {own rest left : ℕ}
    {others found : List ℕ} → IsStep p layer before own rest left
    → IsNextCompletion p (layer + 1) (Some own) left others found
    → IsNextCompletion p layer before rest (own ∷ others) (own ∷ found)
next_deeper step next = record {
  completion = completion_of_step _ step next.completion;
  later = inr (refl, next.later);
  first = λ other there later. deeper_first _ step next there later;
}

-- where there is none with the same first rank, the next completion has a greater one
above_first : {p : Penalties} {layer : ℕ} {before : Option ℕ} {own rest left rank less : ℕ}
    {others found : List ℕ} (other : List ℕ) → IsStep p layer before own rest left
    → HasNoNextCompletion p (layer + 1) (Some own) left others
    → IsFirstStep p layer before own rest rank less
    → IsFirstCompletion p (layer + 1) (Some rank) less found
    → IsCompletion p layer before other rest → AreBefore (own ∷ others) other
    → (other ≡ rank ∷ found) ⊎ AreBefore (rank ∷ found) other
above_first [] step none first_above on there later = absurd later
above_first (second ∷ ranks) step none first_above on there (inr (same, later)) =
    absurd (none ranks (same_later _ step same there) later)
above_first {rank} (second ∷ ranks) step none first_above on there (inl higher) =
    elim (cases_order second rank) [
      | inl same ↦ elim (on.first ranks (same_later _ first_above.step (sym same) there)) [
        | inl equal ↦ inl (cc)
        | inr before_it ↦ inr (inr (sym same, before_it))
      ]
      | inr (inl lower) ↦
          let (some, other_step, later) = step_of_completion _ _ _ _ _ _ there in
          absurd (first_above.first second some higher lower other_step)
      | inr (inr greater) ↦ inr (inl greater)
    ]

pub next_above : {p : Penalties} {layer : ℕ} {before : Option ℕ} {own rest left rank less : ℕ}
    {others found : List ℕ} → IsStep p layer before own rest left
    → HasNoNextCompletion p (layer + 1) (Some own) left others
    → IsFirstStep p layer before own rest rank less
    → IsFirstCompletion p (layer + 1) (Some rank) less found
    → IsNextCompletion p layer before rest (own ∷ others) (rank ∷ found)
next_above step none first_above on = record {
  completion = completion_of_step _ first_above.step on.completion;
  later = inl first_above.greater;
  first = λ other there later. above_first _ step none first_above on there later;
}

-- where no greater rank has a step either, there is none
pub none_above : (p : Penalties) (layer : ℕ) (before : Option ℕ) {own rest left : ℕ}
    {others : List ℕ} → IsStep p layer before own rest left
    → HasNoNextCompletion p (layer + 1) (Some own) left others
    → HasNoStep p layer before own rest → HasNoNextCompletion p layer before rest (own ∷ others)
none_above p layer before step none no_step [] there later = later
none_above p layer before step none no_step (rank ∷ ranks) there (inl higher) =
    let (less, other, on) = step_of_completion _ _ _ _ _ _ there in no_step rank less higher other
none_above p layer before step none no_step (rank ∷ ranks) there (inr (same, later)) =
    none ranks (same_later _ step same there) later

-- a candidate to which there is a step precedes those of the next layer
pub is_predecessor : {p : Penalties} {layer : ℕ} {before : Option ℕ} {rank rest left : ℕ}
    → IsStep p layer before rank rest left → IsPredecessor p (layer + 1) (Some rank)
is_predecessor {p} {layer} {rank} step = grind (arith, rank_inside)

-- ---- ranks that are found one by one

pub appends_deeper : (P Q : List ℕ → Type 0) (ranks pushed longer : List ℕ) (rank : ℕ)
    → pushed ≡ ranks ++ rank ∷ [] → ((found : List ℕ) → P found → Q (rank ∷ found))
    → Appends pushed longer P → Appends ranks longer Q
appends_deeper P Q ranks pushed longer rank is more (found, longer_is, on) =
    grind (arith, append_assoc)

pub pushed_length : {pushed : List ℕ} (ranks : List ℕ) (rank : ℕ) → pushed ≡ ranks ++ rank ∷ []
    → length pushed ≡ length ranks + 1
pushed_length ranks rank is = rw is (length-append ranks (rank ∷ []))

pub appends_nothing : {P : List ℕ → Type 0} (ranks : List ℕ) → P [] → Appends ranks ranks P
appends_nothing ranks on = ([], sym (append-nil ranks), on)

-- a rank that was pushed and popped again
pub popped_back : {pushed popped : List ℕ} (ranks deeper : List ℕ) (rank : ℕ)
    → pushed ≡ ranks ++ rank ∷ [] → deeper ≡ pushed → popped ≡ take (length deeper - 1) deeper
    → popped ≡ ranks
popped_back ranks deeper rank is same taken = grind (arith, length-append, take_at)

-- ---- the budget of probes

-- what a layer may take, and the later ones
pub layer_budget : {first new count later : ℕ} (old layers layer most : ℕ) → layer < layers
    → count ≤ most → first ≤ old + count → new ≤ first + later
    → later ≡ (layers - (layer + 1)) * most
    → new ≤ old + (layers - layer) * most
layer_budget old layers layer most inside few one rest is = grind (arith, suc-mul)
