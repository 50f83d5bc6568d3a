use Rattle.olr_matching.proofs.Common.{◌≡◌, take, places_of}
use Rattle.olr_matching.proofs.searches.places_of.Given as goal

-- the places of the candidates so far
abbrev pub invariant-loop-candidate : goal.invariant-loop-candidate
invariant-loop-candidate l = l.places.items ≡ places_of (take l.candidate-index l.candidates)
