use Rattle.olr_places.specs.Places.{IsOpenerAt}
use Rattle.olr_likely.proofs.Found.{all_shown, are_likely}
use Rattle.olr_likely.proofs.Turns.{all_before}
use Rattle.olr_likely.specs.declared.ranked.RankedPlace.{RankedPlace}
use Rattle.olr_likely.proofs.finding.likely_places.Goals as goal

pub chances_asked-requires-clause-places : goal.chances_asked-requires-clause-places
chances_asked-requires-clause-places c = rw c.deref.ensures.value
    (all_before (IsOpenerAt c.args.map.now c.args.layers.now) (λ (place : RankedPlace). place.opener)
    c.in_ok-places.places.items
    (rw c.in_ok-places.ensures.openers_are c.in_ok-openers.ensures.openers))

pub returns-clause-places : goal.returns-clause-places
returns-clause-places c =
    let (answers, looked, are_answers, is_looked, are) = c.in_ok-openers.ensures.places in
    are_likely c.args.map.now c.args.layers.now c.args.asked.now _ c.widest.ensures c.keys_are_in_range.ensures c.requires.layers.table answers
    looked are_answers is_looked c.in_ok-openers.field-0 are c.in_ok-places.places.items
    c.in_ok-places.ensures c.in_ok-chances.chances
    c.in_ok-likely.likely (rw (← c.deref.ensures.value) c.in_ok-chances.ensures)
    (rw (← c.key_behind-next.ensures) c.in_ok-likely.ensures)

pub returns-clause-openers : goal.returns-clause-openers
returns-clause-openers c = all_shown (IsOpenerAt c.args.map.now c.args.layers.now) _
    c.in_ok-places.places.items c.in_ok-likely.likely.places.items c.args.asked.now.limits
    c.in_ok-openers.field-0.openers.items c.in_ok-places.ensures c.in_ok-likely.ensures.shown
    c.in_ok-openers.ensures.openers
