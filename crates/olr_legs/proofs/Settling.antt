-- What holds of the walks that a search has found while walks are offered to lines.
use Rattle.std.proofs.Common.{◌≡◌, ℕ, zero, suc, ap, List, ◌∷◌, ◌⊎◌, arith, inl, inr, subst, sym, ◌∙◌}
use Rattle.std.proofs.lemmas.Bool.{cases_eq}
use Rattle.std.proofs.lemmas.List.Sorted.{Contains-permutation}
use Rattle.std.specs.BinaryHeap.{heap_items}
use Rattle.std.specs.declared.cmp.Reverse.{Reverse}
use Rattle.std.proofs.lemmas.Option.{same_Some}
use Rattle.std.specs.Prelude.{Contains, IsPermutation, Some}
use Rattle.olr_route.specs.Walk.{start_of}
use Rattle.olr_legs.specs.Labels.{AreKept, AreSettled, AreSettledBut, AreSound, IsAt, IsClosed, IsOffered, IsSettled, Waits, way_in}
use Rattle.olr_legs.specs.Search.{LeadsOn}
use Rattle.olr_legs.specs.declared.labels.Labels.{Labels}
use Rattle.olr_legs.specs.declared.search.Search.{Search}
use Rattle.olr_legs.specs.declared.way.Way.{Way}

-- what holds of each walk before, and of the one that is offered, holds of each walk
module _ (Holds : ℕ → Way → Type 0) (old new : Labels) (line length : ℕ) (behind : List ℕ)
    (offered : IsOffered line length behind old new)
    (before : (k : ℕ) (way : Way) → way_in old k ≡ Some way → Holds k way)
    (here : (way : Way) → way.length ≡ length → way.behind.items ≡ behind
    → Waits new line length → Holds line way) where
  at_line : (way : Way) → way_in new line ≡ Some way → Holds line way
  at_line way is = elim offered.here [
    | inl same ↦ before line way (sym same ∙ is)
    | inr made ↦ subst (λ (w : Way). Holds line w) (same_Some made.0 way (sym made.1 ∙ is))
        (here made.0 made.2 made.3 made.4)
  ]

  pub offered_holds : (k : ℕ) (way : Way) → way_in new k ≡ Some way → Holds k way
  offered_holds k way is = elim (cases_eq k line) [
    | inl same ↦ subst (λ (l : ℕ). Holds l way) (sym same)
        (at_line way (subst (λ (l : ℕ). way_in new l ≡ Some way) same is))
    | inr differs ↦ before k way (sym (offered.others k differs) ∙ is)
  ]

module _ (search : Search) (old new : Labels) where
  pub offered_sound : (line length : ℕ) (behind : List ℕ) → IsOffered line length behind old new
      → AreSound search old → LeadsOn search (start_of line) length behind → AreSound search new
  offered_sound line length behind offered sound leads =
      offered_holds (λ k way. LeadsOn search (start_of k) way.length way.behind.items)
      old new line length behind offered sound
      (λ way long over _. subst (λ b. LeadsOn search (start_of line) way.length b) (sym over)
      (subst (λ l. LeadsOn search (start_of line) l behind) (sym long) leads))

  pub closed_kept : AreKept old new → (line : ℕ) (way : Way) → IsClosed search old line way
      → IsClosed search new line way
  closed_kept kept line way closed before turn may = kept _ _ _ (closed before turn may)

  pub offered_settled : (line length : ℕ) (behind : List ℕ) → IsOffered line length behind old new
      → (IsBut : ℕ → Way → Type 0) → AreSettledBut search old IsBut
      → AreSettledBut search new IsBut
  offered_settled line length behind offered IsBut settled =
      offered_holds (λ k way. IsSettled search new k way ⊎ IsBut k way)
      old new line length behind offered
      (λ k way is. elim (settled k way is) [
        | inl done ↦ inl (elim done [
          | inl waits ↦ inl (offered.waits k way.length waits)
          | inr closed ↦ inr (closed_kept offered.kept k way closed)
        ])
        | inr last ↦ inr last
      ])
      (λ way same _ waits. inl (inl (subst (λ l. Waits new line l) (sym same) waits)))

-- the line that waited first no longer does
module _ (search : Search) (old new : Labels) (line long : ℕ)
    (same : (k : ℕ) → way_in new k ≡ way_in old k)
    (taken : IsPermutation (heap_items old.waiting)
    (record { 0 = (long, line) } ∷ heap_items new.waiting)) where
  same_kept : AreKept old new
  same_kept k far over (way, is, up) = (way, same k ∙ is, up)

  still_waits : (k far : ℕ) → Contains (record { 0 = (long, line) } ∷ heap_items new.waiting)
      (record { 0 = (far, k) }) → Waits new k far ⊎ ((k ≡ line) × (far ≡ long))
  still_waits k far (zero, inside, is) =
      inr (ap (λ (r : Reverse (ℕ × ℕ)). r.0.1) (sym is), ap (λ (r : Reverse (ℕ × ℕ)). r.0.0) (sym is))
  still_waits k far (suc i, inside, is) = inl (i, omega arith, is)

  pub popped_settled : AreSettled search old → AreSettledBut search new (IsAt line long)
  popped_settled settled k way is = elim (settled k way (sym (same k) ∙ is)) [
    | inl waits ↦ elim (still_waits k way.length (Contains-permutation _ _ _ taken waits)) [
      | inl still ↦ inl (inl still)
      | inr last ↦ inr last
    ]
    | inr closed ↦ inl (inr (closed_kept search old new same_kept k way closed))
  ]
