use Rattle.std.proofs.Common.{◌≡◌, ◌+◌, refl}
use Rattle.olr_keys.proofs.Outcomes.{from_none}
use Rattle.olr_keys.proofs.rows.Rows.left.Goals as goal

pub returns-in_err-joined : goal.returns-in_err-joined
returns-in_err-joined c =
    let same : c.self.inside.table.now ≡ c.args.self.now.penalties = cc in
    from_none _ c.from_residual.ensures (λ left step.
    (rw same at c.in_err-joined.ensures.joined) (step.leg + step.penalty)
    (step.leg, step.penalty, step.joined, step.there, refl))
