-- The keys that complete a beginning of a matching, by the rank of the next candidate.
use Rattle.olr_keys.proofs.Common.{◌≡◌, ℕ, ◌+◌, ◌≤◌, ◌⊎◌, ◌++◌, List, [], ◌∷◌, length, Option, Some, inl, inr, refl, sym, ◌∙◌, subst, append_assoc, length-append, arith, cases_lt, append-nil, Penalties, IsTable, count_of, max_step, KeyValue, IsInRange, IsAfter, IsLeastOf, IsCompletion, IsBeginning, Completes, IsHeld, IsJoined, IsLeft, same_key}
use Rattle.olr_keys.proofs.Least.{same_least, more_least, later_least}
use Rattle.olr_keys.proofs.Ranges.{key_in_range, rank_inside}
use Rattle.olr_keys.proofs.Completions.{layer_inside, step_leg, step_penalty}

-- the key completes the beginning with the candidate of this rank
abbrev pub CompletesThrough : Penalties → Option ℕ → ℕ → List ℕ → ℕ → KeyValue → Type 0
CompletesThrough p before total ranks rank key =
    (rest : List ℕ) × (more : ℕ) × IsCompletion p (length ranks) before (rank ∷ rest) more
    × (key ≡ record { total = total + more; ranks = ranks ++ rank ∷ rest })

-- the key completes the beginning with one of the candidates up to this rank
abbrev pub CompletesBelow : Penalties → Option ℕ → ℕ → List ℕ → ℕ → KeyValue → Type 0
CompletesBelow p before total ranks last key = (rank : ℕ) × (rank ≤ last)
    × CompletesThrough p before total ranks rank key

-- the least of the key held and of those, after a position
abbrev pub IsLeastBelow : Penalties → Option ℕ → ℕ → List ℕ → Option KeyValue → Option KeyValue → ℕ
    → Option KeyValue → Type 0
IsLeastBelow p before total ranks after held last found =
    IsLeastOf (λ (key : KeyValue). IsHeld held key
    ⊎ (CompletesBelow p before total ranks last key × IsAfter after key)) found

module _ (p : Penalties) (before : Option ℕ) (total : ℕ) (ranks : List ℕ) where
  longer_length : (rank : ℕ) → length (ranks ++ rank ∷ []) ≡ length ranks + 1
  longer_length rank = length-append ranks (rank ∷ [])

  -- one candidate more
  pub from_longer : (rank sum : ℕ) → IsJoined p (length ranks) before rank sum → (key : KeyValue)
      → Completes p (Some rank) (total + sum) (ranks ++ rank ∷ []) key
      → CompletesThrough p before total ranks rank key
  from_longer rank sum (leg, penalty, joined, there, is) key (rest, more, completion, same) =
      let later = subst (λ (n : ℕ). IsCompletion p n (Some rank) rest more) (longer_length _)
      completion in (
        rest,
        leg + penalty + more,
        (leg, penalty, more, joined, there, later, refl),
        same ∙ same_key (omega arith) (append_assoc ranks (rank ∷ []) rest),
      )

  pub to_longer : (rank sum : ℕ) → IsJoined p (length ranks) before rank sum → {key : KeyValue}
      → CompletesThrough p before total ranks rank key
      → Completes p (Some rank) (total + sum) (ranks ++ rank ∷ []) key
  to_longer rank sum (leg, penalty, joined, there, is)
      (rest, more, (leg', penalty', left, joined', there', later, split), same) =
      let legs : leg' ≡ leg = cc in
      let penalties : penalty' ≡ penalty = cc in (
        rest,
        left,
        rw (longer_length _) later,
        same ∙ same_key (omega arith) (sym (append_assoc ranks (rank ∷ []) rest)),
      )

  pub through_completes : (rank : ℕ) (key : KeyValue)
      → CompletesThrough p before total ranks rank key → Completes p before total ranks key
  through_completes rank key (rest, more, completion, same) = (rank ∷ rest, more, completion, same)

  pub begins_longer : {rank sum : ℕ} {longer : List ℕ} → longer ≡ ranks ++ rank ∷ []
      → IsJoined p (length ranks) before rank sum → IsBeginning p before total ranks
      → IsBeginning p (Some rank) (total + sum) longer
  begins_longer are step keys =
      rw are (λ key completes. keys key (through_completes _ _ (from_longer _ _ step _ completes)))

  pub step_at_most : {sum : ℕ} (rank : ℕ) → IsTable p → IsJoined p (length ranks) before rank sum
      → sum ≤ max_step
  step_at_most rank sound (leg, penalty, joined, there, is) =
      let inside = layer_inside p _ _ _ there in
      omega (arith, step_penalty _ _ sound there, step_leg _ _ sound inside joined)

  -- ---- the last layer

  pub ends_here : {key : KeyValue} → length ranks ≡ length p.candidates
      → Completes p before total ranks key → key ≡ record { total = total; ranks = ranks }
  ends_here last ([], more, completion, same) = grind (arith, same_key, append-nil)
  ends_here last (rank ∷ rest, more, (leg, penalty, left, joined, there, later, sum), same) =
      grind (arith, layer_inside)

  pub completes_itself : (key : KeyValue) → length ranks ≡ length p.candidates
      → key ≡ record { total = total; ranks = ranks } → Completes p before total ranks key
  completes_itself key last same =
      ([], 0, (last, refl), same ∙ same_key (omega arith) (sym (append-nil ranks)))

  pub whole_in_range : IsTable p → length ranks ≡ length p.candidates
      → IsBeginning p before total ranks → IsInRange record { total = total; ranks = ranks }
  whole_in_range sound last keys =
      key_in_range _ _ sound (keys (record { total = total; ranks = ranks })
      (completes_itself _ last refl))

  module _ (after held : Option KeyValue) where
    pub least_at_end : {whole : KeyValue} (found : Option KeyValue)
        → length ranks ≡ length p.candidates → whole ≡ record { total = total; ranks = ranks }
        → IsLeastOf (λ (key : KeyValue). IsHeld held key ⊎ ((key ≡ whole) × IsAfter after key))
        found
        → IsLeastOf (λ (key : KeyValue). IsHeld held key
        ⊎ (Completes p before total ranks key × IsAfter after key)) found
    least_at_end found last is = same_least _ _
        (λ key there. elim there [
          | inl old ↦ inl old
          | inr new ↦ inr (completes_itself _ last (new.0 ∙ is), new.1)
        ])
        (λ key there. elim there [
          | inl old ↦ inl old
          | inr new ↦ inr (ends_here last new.0 ∙ sym is, new.1)
        ]) _

    -- ---- rank by rank

    -- the keys up to a rank are among those up to the next one
    more_below : (last : ℕ) (key : KeyValue) → IsHeld held key
        ⊎ (CompletesBelow p before total ranks last key × IsAfter after key)
        → IsHeld held key ⊎ (CompletesBelow p before total ranks (last + 1) key × IsAfter after key)
    more_below last key (inl old) = inl old
    more_below last key (inr ((rank, least, through), later)) =
        inr ((rank, omega arith, through), later)

    -- the keys up to the next rank are those up to this one, or of the candidate of the next rank
    next_rank : {last : ℕ} (rank : ℕ) → rank ≡ last + 1 → {key : KeyValue}
        → CompletesBelow p before total ranks (last + 1) key
        → CompletesBelow p before total ranks last key
        ⊎ CompletesThrough p before total ranks rank key
    next_rank {last} rank next (other, most, through) = grind (arith, cases_lt last other)

    -- with one candidate more, all of whose keys come after the one found
    pub least_left : (last rank : ℕ) (found : Option KeyValue) → rank ≡ last + 1
        → IsLeft p before total ranks rank found
        → IsLeastBelow p before total ranks after held last found
        → IsLeastBelow p before total ranks after held (last + 1) found
    least_left last rank found next left = later_least _ _
        (more_below _) _
        (λ key there. elim there [
          | inl old ↦ inl (inl old)
          | inr (below, later) ↦ elim (next_rank _ next below) [
            | inl earlier ↦ inl (inr (earlier, later))
            | inr (rest, more, completion, same) ↦ inr (rw same (left rest more completion))
          ]
        ])

    -- with one candidate more, whose keys are looked at
    pub least_with : (last rank sum longer_total : ℕ) (longer : List ℕ)
        (least found : Option KeyValue) → rank ≡ last + 1 → longer_total ≡ total + sum
        → longer ≡ ranks ++ rank ∷ []
        → IsJoined p (length ranks) before rank sum
        → IsLeastBelow p before total ranks after held last least
        → IsLeastOf (λ (key : KeyValue). IsHeld least key
        ⊎ (Completes p (Some rank) longer_total longer key × IsAfter after key)) found
        → IsLeastBelow p before total ranks after held (last + 1) found
    least_with last rank sum longer_total longer least found next is are step old_is new_is =
        let P : KeyValue → Type 0 = λ key. IsHeld held key
        ⊎ (CompletesBelow p before total ranks last key × IsAfter after key) in
        let Q : KeyValue → Type 0 = λ key. Completes p (Some rank) longer_total longer key
        × IsAfter after key in
        same_least _ _
        (λ key there. elim there [
          | inl old ↦ more_below _ _ old
          | inr new ↦
              let completes : Completes p (Some rank) (total + sum) (ranks ++ rank ∷ []) key =
              rw (← are) (rw (← is) new.0) in
              inr ((rank, omega arith, from_longer _ _ step _ completes), new.1)
        ])
        (λ key there. elim there [
          | inl old ↦ inl (inl old)
          | inr (below, later) ↦ elim (next_rank _ next below) [
            | inl earlier ↦ inl (inr (earlier, later))
            | inr at ↦
                let completes : Completes p (Some rank) (total + sum) longer key =
                rw are (to_longer _ _ step at) in
                inr (rw is completes, later)
          ]
        ]) _
        (more_least P Q _ _ old_is new_is)

    pub one_of_them : (key : KeyValue) → (length ranks ≡ length p.candidates → ⊥)
        → Completes p before total ranks key
        → CompletesBelow p before total ranks (count_of p (length ranks)) key
    one_of_them key more ([], left, completion, same) = absurd (more completion.0)
    one_of_them key more (rank ∷ rest, left, completion, same) =
        (rank, (rank_inside p (length ranks) _ _ completion.4).1, (rest, left, completion, same))

    -- with all candidates of the layer
    pub least_of_all : (found : Option KeyValue) → (length ranks ≡ length p.candidates → ⊥)
        → IsLeastBelow p before total ranks after held (count_of p (length ranks)) found
        → IsLeastOf (λ (key : KeyValue). IsHeld held key
        ⊎ (Completes p before total ranks key × IsAfter after key)) found
    least_of_all found more = same_least _ _
        (λ key there. elim there [
          | inl old ↦ inl old
          | inr new ↦ inr (through_completes _ _ new.0.2, new.1)
        ])
        (λ key there. elim there [
          | inl old ↦ inl old
          | inr new ↦ inr (one_of_them _ more new.0, new.1)
        ]) _
