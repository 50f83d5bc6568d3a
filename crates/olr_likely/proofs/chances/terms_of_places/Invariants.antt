use Rattle.std.proofs.Common.{take}
use Rattle.olr_likely.specs.Chances.{AreTermsOfPlaces}
use Rattle.olr_likely.proofs.chances.terms_of_places.Given as goal

-- those so far have terms
abbrev pub invariant-loop-place : goal.invariant-loop-place
invariant-loop-place l =
    AreTermsOfPlaces l.map l.layers (take l.place-index l.places) l.terms.items
