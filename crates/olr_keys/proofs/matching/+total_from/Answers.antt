use Rattle.olr_keys.proofs.Leaving.{unjoined}
use Rattle.olr_keys.proofs.Outcomes.{from_none}
use Rattle.olr_keys.proofs.matching.+total_from.Goals as goal

pub returns-in_err-joined : goal.returns-in_err-joined
returns-in_err-joined t c =
    from_none _ c.from_residual.ensures
    (rw c.in-Some.ensures.cases.0 (λ total. unjoined _ _ _ _ c.in_err-joined.ensures.joined _
    total))
