-- Remaining totals, from one layer to the next.
use Rattle.olr_keys.proofs.Ranges.{rank_inside}
use Rattle.olr_keys.proofs.Common.{◌≡◌, ℕ, ◌+◌, ◌<◌, ◌≤◌, [], ◌∷◌, length, Some, refl, arith, Penalties, count_of, penalty_at, leg_at, IsRemainingTotal}
use Rattle.olr_keys.proofs.Completions.{layer_inside, same_some}

-- ---- the last layer

pub remaining_last : (p : Penalties) {rank : ℕ} (layer penalty : ℕ)
    → layer + 1 ≡ length p.candidates → penalty_at p layer rank ≡ Some penalty
    → IsRemainingTotal p layer rank penalty
remaining_last p layer penalty last there =
    ([], (0, penalty, 0, refl, there, (last, refl), omega arith))

pub only_last : (p : Penalties) {rank total : ℕ} (layer penalty : ℕ)
    → layer + 1 ≡ length p.candidates → penalty_at p layer rank ≡ Some penalty
    → IsRemainingTotal p layer rank total → total ≡ penalty
only_last p layer penalty last there ([], (leg, own, rest, joined, here, later, sum)) =
    let none : 0 ≡ leg = cc in omega (arith, same_some _ _ here there)
only_last p layer penalty last there (
  second ∷ ranks,
  (
    leg,
    own,
    rest,
    joined,
    here,
    (leg', next, rest', joined', here', later, sum'),
    sum,
  ),
) =
    absurd (omega (arith, layer_inside p _ _ _ here'))

-- ---- a layer before the last one

-- a total of a candidate with one of the first candidates of the next layer
abbrev pub IsTotalBy : Penalties → ℕ → ℕ → ℕ → ℕ → ℕ → Type 0
IsTotalBy p layer rank penalty count total =
    (second : ℕ) × (leg : ℕ) × (rest : ℕ) × (1 ≤ second) × (second ≤ count)
    × (leg_at p (layer + 1) rank second ≡ Some leg)
    × IsRemainingTotal p (layer + 1) second rest × (total ≡ rest + (penalty + leg))

pub remaining_by : (p : Penalties) (layer rank penalty count total : ℕ)
    → penalty_at p layer rank ≡ Some penalty → IsTotalBy p layer rank penalty count total
    → IsRemainingTotal p layer rank total
remaining_by p layer rank penalty count total there (
  second,
  leg,
  rest,
  least,
  most,
  joined,
  (ranks, (none, own, later_rest, is_none, here, later, later_sum)),
  sum,
) =
    let no_leg : 0 ≡ none = cc in (
      second ∷ ranks,
      (
        0,
        penalty,
        leg + rest,
        refl,
        there,
        (leg, own, later_rest, joined, here, later, omega arith),
        omega arith,
      ),
    )

pub by_remaining : (p : Penalties) {rank total : ℕ} (layer penalty : ℕ)
    → layer + 1 < length p.candidates → penalty_at p layer rank ≡ Some penalty
    → IsRemainingTotal p layer rank total
    → IsTotalBy p layer rank penalty (count_of p (layer + 1)) total
by_remaining p layer penalty inside there ([], (leg, own, rest, joined, here, later, sum)) =
    absurd (omega arith)
by_remaining p layer penalty inside there (
  second ∷ ranks,
  (
    leg,
    own,
    rest,
    joined,
    here,
    (leg', next, rest', joined', here', later, sum'),
    sum,
  ),
) =
    let none : 0 ≡ leg = cc in
    let position = rank_inside p _ _ _ here' in (
      second,
      leg',
      next + rest',
      position.0,
      position.1,
      joined',
      (ranks, (0, next, rest', refl, here', later, omega arith)),
      omega (arith, same_some _ _ here there),
    )
