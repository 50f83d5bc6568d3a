use Rattle.olr_keys.proofs.Common.{◌≡◌, ℕ, List, arith, decimal, decimal_injective, IsRank}
use Rattle.olr_keys.proofs.ranks.rank_of.Goals as goal

no_rank : {text : List ℕ} (number rank : ℕ) → text ≡ decimal number → number ≡ 0 → IsRank rank
    → text ≡ decimal rank → ⊥
no_rank number rank is zero in_range other =
    let same : number ≡ rank = decimal_injective _ _ (omega arith) (omega arith) (cc) in
    absurd (omega arith)

pub returns-then-rank-eq0 : goal.returns-then-rank-eq0
returns-then-rank-eq0 c rank in_range other =
    no_rank _ _ c.in_ok-rank.ensures.1 c.if-rank-eq0.true in_range other
