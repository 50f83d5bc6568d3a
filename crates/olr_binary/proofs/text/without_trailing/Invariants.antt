use Rattle.olr_binary.proofs.Common.{◌≡◌, length, without_trailing}
use Rattle.olr_binary.proofs.text.without_trailing.Given as goal

abbrev pub invariant-loop-rest : goal.invariant-loop-rest
invariant-loop-rest l = without_trailing l.rest ≡ without_trailing l.text

abbrev pub decreases-loop-rest : goal.decreases-loop-rest
decreases-loop-rest l = length l.rest
