-- What may be left: beginnings that can't be completed, or only by keys that come after the one
-- held.
use Rattle.olr_keys.proofs.Common.{◌≡◌, ℕ, ◌+◌, ◌≤◌, List, [], ◌∷◌, ◌++◌, length, Option, Some, None, inl, inr, refl, append_assoc, arith, cases_eq, HasNoCompletionBy, IsBound, IsHeldBefore, IsLeft, IsLowerBound, KeyValue, AreBefore, IsBefore, leg_to, IsJoined, Penalties}
use Rattle.olr_keys.proofs.Completions.{same_some}

-- ---- one step

-- a candidate that isn't joined to the one before it begins no completion
pub unjoined : (p : Penalties) (layer : ℕ) (before : Option ℕ) (rank : ℕ)
    → ((sum : ℕ) → IsJoined p layer before rank sum → ⊥) → HasNoCompletionBy p layer before rank
unjoined p layer before rank none =
    λ ranks total (leg, penalty, rest, joined, there, later, sum). none (leg + penalty)
    (leg, penalty, joined, there, refl)

module _ (p : Penalties) (layer : ℕ) (before : Option ℕ) (rank : ℕ) where
  pub none_by : (bound : Option ℕ) → bound ≡ None → IsBound p layer rank bound
      → HasNoCompletionBy p layer before rank
  none_by None is none = λ ranks total (leg, penalty, rest, joined, there, later, sum). none
      (penalty + rest) (ranks, (0, penalty, rest, refl, there, later, omega arith))
  none_by (Some n) is bound = absurd cc

  pub lower_by : (bound : Option ℕ) {leg n least : ℕ} → bound ≡ Some n
      → leg_to p layer before rank ≡ Some leg → least ≡ leg + n → IsBound p layer rank bound
      → IsLowerBound p layer before rank least
  lower_by None is joined sum bound = absurd cc
  lower_by (Some m) {leg} {n} is joined sum (on, first) =
      λ ranks total (leg', penalty, rest, joined', there, later, split).
      let same : m ≡ n = cc in
      omega (
        arith,
        same_some _ _ joined' joined,
        first (penalty + rest) (ranks, (0, penalty, rest, refl, there, later, omega arith)),
      )

-- ---- a beginning

-- ranks that come before others come before longer ones
before_longer : (ranks others rest : List ℕ) → AreBefore ranks others
    → AreBefore ranks (others ++ rest)
before_longer ranks [] rest before = absurd before
before_longer [] (other ∷ others) rest before = tt
before_longer (rank ∷ ranks) (other ∷ others) rest (inl less) = inl less
before_longer (rank ∷ ranks) (other ∷ others) rest (inr (same, before)) =
    inr (same, before_longer ranks others rest before)

-- a key that comes before a total and ranks comes before a total that isn't less with longer ranks
before_more : (key : KeyValue) (total more : ℕ) (ranks rest : List ℕ) → total ≤ more
    → IsBefore key (record { total = total; ranks = ranks })
    → IsBefore key (record { total = more; ranks = ranks ++ rest })
before_more key total more ranks rest least (inl less) = inl (omega arith)
before_more key total more ranks rest least (inr (same, before)) =
    grind (arith, cases_eq, before_longer)

module _ (p : Penalties) (before : Option ℕ) (total : ℕ) (ranks : List ℕ) (rank : ℕ) where
  pub left_by_none : (held : Option KeyValue) → HasNoCompletionBy p (length ranks) before rank
      → IsLeft p before total ranks rank held
  left_by_none held none = λ rest more completion. absurd (none rest more completion)

  pub left_unjoined : (held : Option KeyValue)
      → ((sum : ℕ) → IsJoined p (length ranks) before rank sum → ⊥)
      → IsLeft p before total ranks rank held
  left_unjoined held none = λ rest more (leg, penalty, left, joined, there, later, sum). absurd
      (none (leg + penalty) (leg, penalty, joined, there, refl))

  pub left_by_bound : (held : Option KeyValue) {least bound : ℕ} {longer : List ℕ}
      → IsLowerBound p (length ranks) before rank least → bound ≡ total + least
      → longer ≡ ranks ++ rank ∷ []
      → IsHeldBefore held (record { total = bound; ranks = longer })
      → IsLeft p before total ranks rank held
  left_by_bound None lower sum are held_before = absurd held_before
  left_by_bound (Some key) {longer} lower sum are held_before = λ rest more completion.
      let joined : longer ++ rest ≡ ranks ++ rank ∷ rest =
      cc (append_assoc ranks (rank ∷ []) rest) in
      rw (← joined) (before_more _ _ _ _ _ (omega (arith, lower rest more completion)) held_before)
