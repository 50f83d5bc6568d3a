use Rattle.std.proofs.Common.{arith, subst, sym, take_all}
use Rattle.olr_places.specs.Places.{IsOpenerAt}
use Rattle.olr_likely.specs.Chances.{HasTerms}
use Rattle.olr_likely.specs.declared.ranked.RankedPlace.{RankedPlace}
use Rattle.olr_likely.proofs.Turns.{zip_more}
use Rattle.olr_likely.proofs.chances.terms_of_places.Goals as goal

pub terms_of_place-requires-clause-matched : goal.terms_of_place-requires-clause-matched
terms_of_place-requires-clause-matched c =
    let is = subst (λ (place : RankedPlace). IsOpenerAt c.args.map.now c.args.layers.now place.opener)
    (sym c.place-item.is)
    (c.requires.places c.loop-place.place-index c.place-item.result (omega arith)) in
    rw (c.tolerances.ensures, c.reference.ensures)
    (c.matchings_can_be_detailed.ensures _ _ _ _ c.requires.layers is.is_entry.parts)

pub terms_of_place-requires-clause-route : goal.terms_of_place-requires-clause-route
terms_of_place-requires-clause-route c =
    let is = subst (λ (place : RankedPlace). IsOpenerAt c.args.map.now c.args.layers.now place.opener)
    (sym c.place-item.is)
    (c.requires.places c.loop-place.place-index c.place-item.result (omega arith)) in
    is.on_map.route

pub loop-place-preserved : goal.loop-place-preserved
loop-place-preserved c = rw c.in_ok-push.ensures.items (zip_more
    (HasTerms c.args.layers.now.tolerances c.args.layers.now.reference c.args.map.now)
    c.args.places.now c.loop-place.terms.items c.loop-place.place-index c.place-item.result _
    (omega arith) c.place-item.is c.loop-place.invariant
    (rw (← c.tolerances.ensures, ← c.reference.ensures) c.in_ok-terms_of_place.ensures))

pub returns : goal.returns
returns c = rw (← (take_all c.loop-place.place-index c.args.places.now (omega arith)))
    c.loop-place.invariant
