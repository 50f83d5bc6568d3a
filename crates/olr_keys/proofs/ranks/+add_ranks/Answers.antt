use Rattle.olr_keys.proofs.Common.{◌≡◌, ℕ, Bool, true, arith, ◌==◌, eqb-true}
use Rattle.olr_keys.proofs.Outcomes.{from_none}
use Rattle.olr_keys.proofs.Lacking.{lacks_uncut, cut_at}
use Rattle.olr_keys.proofs.RanksText.{no_ranks, head_of, joined}
use Rattle.olr_keys.proofs.ranks.+add_ranks.Goals as goal

is_thirty_two : {full : Bool} (count : ℕ) → full ≡ (count == 32) → full ≡ true → count ≡ 32
is_thirty_two count is holds = eqb-true count 32 (cc)

pub returns-in_err-rank_of : goal.returns-in_err-rank_of
returns-in_err-rank_of t c = from_none _ c.from_residual.ensures (no_ranks
    (lacks_uncut _ c.split_once.ensures.cases (omega arith) c.in_default.is)
    c.in_err-rank_of.ensures)

pub returns-in_err-rank_of-2 : goal.returns-in_err-rank_of-2
returns-in_err-rank_of-2 t c = from_none _ c.from_residual-in_err-rank_of-2.ensures
    (λ more are same.
    let cut = cut_at _ _
    c.split_once.ensures.cases (omega arith) c.in-Some.is in
    let head = head_of _ _ _ _ cut _ are same in
    c.in_err-rank_of-2.ensures head.rank head.in_range head.first)

pub returns-then-is_full : goal.returns-then-is_full
returns-then-is_full t c more are same =
    let cut = cut_at _ _
    c.split_once.ensures.cases (omega arith) c.in-Some.is in
    let head = head_of _ _ _ _ cut _ are same in
    let full = is_thirty_two _ c.is_full.ensures.value c.if-is_full.true in
    omega arith

pub returns : goal.returns
returns t c =
    let cut = cut_at _ _
    c.split_once.ensures.cases (omega arith) c.in-Some.is in
    joined _ _
    _ cut (omega arith) c.in_ok-rank_of-2.ensures.0 c.in_ok-rank_of-2.ensures.1
    c.push-2.ensures.items c.add_ranks.ensures
