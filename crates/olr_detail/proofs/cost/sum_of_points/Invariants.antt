use Rattle.std.proofs.Common.{◌≡◌, ◌*◌, ◌≤◌, take, sum_by}
use Rattle.olr_detail.proofs.cost.sum_of_points.Given as goal

abbrev pub invariant-loop-candidate : goal.invariant-loop-candidate
invariant-loop-candidate l =
    (l.sum ≡ sum_by (λ candidate. candidate.penalty) (take l.candidate-index l.candidates))
    × (l.sum ≤ 65535 * l.candidate-index)
