use Rattle.olr_matching.proofs.Common.{◌≡◌, take, penalties_of}
use Rattle.olr_matching.proofs.penalties.penalties_of.Given as goal

-- the penalties of the candidates so far
abbrev pub invariant-loop-candidate : goal.invariant-loop-candidate
invariant-loop-candidate l = l.penalties.items ≡ penalties_of (take l.candidate-index l.candidates)
