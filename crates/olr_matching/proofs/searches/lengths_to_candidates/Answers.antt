use Rattle.olr_matching.proofs.Common.{IsPlace, Place, All-map, Covers}
use Rattle.olr_matching.proofs.LengthRows.{all_of_places}
use Rattle.olr_matching.proofs.searches.lengths_to_candidates.Goals as goal

pub lengths_to-requires-clause-targets : goal.lengths_to-requires-clause-targets
lengths_to-requires-clause-targets c = rw (c.deref.ensures.value, c.in_ok-targets.ensures)
    (All-map (IsPlace c.args.map.now) (λ candidate. candidate.place) c.args.candidates.now
    c.requires.places)

pub returns-clause-covers : goal.returns-clause-covers
returns-clause-covers c = all_of_places (λ (place : Place). Covers c.in_ok-reach.reach place.line) _
    (rw (c.deref.ensures.value, c.in_ok-targets.ensures) at c.in_ok-reach.ensures.covers)
