-- The ranks of the lines that were tested.
use Rattle.std.proofs.Math.Seq.{get_or-append_seam}
use Rattle.olr_candidates.proofs.Common.{◌≡◌, ◌≢◌, ℕ, zero, suc, List, [], ◌∷◌, ◌++◌, length, inl, inr, sym, ◌∙◌, length-append, arith, ◌⊎◌, AllPairs, Contains, Contains-append_left, Contains-push, Contains-push_cases}

pub one_seen : (seen : List ℕ) (rank : ℕ) {other : ℕ} → Contains (seen ++ rank ∷ []) other
    → Contains seen other ⊎ (other ≡ rank)
one_seen seen rank is = elim (Contains-push_cases _ _ _ is) [
  | inl before ↦ inl before
  | inr same ↦ inr (sym same)
]

pub still_seen : (seen : List ℕ) (rank other : ℕ) → Contains seen other
    → Contains (seen ++ rank ∷ []) other
still_seen seen rank other is = Contains-append_left _ _ _ is

pub now_seen : (seen : List ℕ) (rank : ℕ) → Contains (seen ++ rank ∷ []) rank
now_seen seen rank = Contains-push _ _

-- no rank comes twice
pub not_seen : (seen : List ℕ) (rank : ℕ) (rest : List ℕ)
    → AllPairs (λ a b. a ≢ b) (seen ++ rank ∷ rest) → Contains seen rank → ⊥
not_seen [] rank rest once is = omega arith
not_seen (x ∷ seen) rank rest once (zero, inside, same) =
    once 0 (suc (length seen)) rank (omega arith) (omega (arith, length-append seen (rank ∷ rest)))
    (same ∙ sym (get_or-append_seam seen rank rest rank))
not_seen (x ∷ seen) rank rest once (suc k, inside, same) =
    not_seen seen rank rest (λ i j d lt within. once (suc i) (suc j) d (omega arith) (omega arith))
    (k, omega arith, same)
