use Rattle.olr_binary.proofs.Common.{◌≡◌, length, without_leading}
use Rattle.olr_binary.proofs.text.without_leading.Given as goal

abbrev pub invariant-loop-rest : goal.invariant-loop-rest
invariant-loop-rest l = without_leading l.rest ≡ without_leading l.text

abbrev pub decreases-loop-rest : goal.decreases-loop-rest
decreases-loop-rest l = length l.rest
