use Rattle.std.proofs.Common.{arith}
use Rattle.olr_keys.proofs.Outcomes.{from_none}
use Rattle.olr_keys.proofs.Lacking.{lacks_uncut, cut_at}
use Rattle.olr_keys.proofs.KeyText.{no_colon, parts_of, ranks_of_key, too_few}
use Rattle.olr_keys.proofs.cursor.key_of.Goals as goal

pub returns-in_err-total : goal.returns-in_err-total
returns-in_err-total c = from_none _ c.from_residual.ensures (λ key in_range.
    no_colon _ (lacks_uncut _ c.split_once.ensures.cases (omega arith)
    c.in_err-total.was))

pub returns-in_err-total-2 : goal.returns-in_err-total-2
returns-in_err-total-2 c = from_none _ c.from_residual-in_err-total-2.ensures (λ key in_range same.
    let cut = cut_at _ _
    c.split_once.ensures.cases (omega arith) c.in_ok-total.was in
    let parts = parts_of cut in_range same in
    c.in_err-total-2.ensures key.total in_range.total_at_most parts.total_is)

pub returns-in_err-ranks : goal.returns-in_err-ranks
returns-in_err-ranks c = from_none _ c.from_residual-in_err-ranks.ensures (λ key in_range same.
    let cut = cut_at _ _
    c.split_once.ensures.cases (omega arith) c.in_ok-total.was in
    let parts = parts_of cut in_range same in
    c.in_err-ranks.ensures key.ranks (ranks_of_key in_range) parts.ranks_are)

pub returns-then-len-lt2 : goal.returns-then-len-lt2
returns-then-len-lt2 c key in_range same =
    let cut = cut_at _ _
    c.split_once.ensures.cases (omega arith) c.in_ok-total.was in
    too_few cut c.in_ok-ranks.ensures.0 c.in_ok-ranks.ensures.1
    (omega arith) in_range same
