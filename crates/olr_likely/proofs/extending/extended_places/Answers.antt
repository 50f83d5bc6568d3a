use Rattle.std.proofs.Common.{List, length, sym, ap, subst, ◌∙◌, arith}
use Rattle.std.proofs.lemmas.List.Elements.{AllZip-push}
use Rattle.olr_likely.specs.Extending.{AreExtendedPlaces, IsExtendedPlace}
use Rattle.olr_likely.specs.Showing.{IsShownAt}
use Rattle.olr_likely.specs.declared.showing.ShownPlace.{ShownPlace}
use Rattle.olr_likely.proofs.Turns.{all_taken, next_holds, one_taken}
use Rattle.olr_likely.proofs.extending.extended_places.Goals as goal

pub extended_place-requires-clause-matched : goal.extended_place-requires-clause-matched
extended_place-requires-clause-matched c =
    let at = c.loop-place in
    let is = next_holds (IsShownAt c.args.map.now c.args.layers.now) at.yielded c.in-Some.place _ _ _
    c.in-Some.ensures.steps.0 at.invariant.left
    (rw c.into_iter-place-iterator.ensures.into_iter_gives.0 c.requires.places) in
    rw (c.tolerances.ensures, c.reference.ensures)
    (c.matchings_can_be_detailed.ensures _ _ _ _ c.requires.layers is.is_entry.parts)

pub extended_place-requires-clause-route : goal.extended_place-requires-clause-route
extended_place-requires-clause-route c =
    let at = c.loop-place in
    let is = next_holds (IsShownAt c.args.map.now c.args.layers.now) at.yielded c.in-Some.place _ _ _
    c.in-Some.ensures.steps.0 at.invariant.left
    (rw c.into_iter-place-iterator.ensures.into_iter_gives.0 c.requires.places) in
    is.on_map.route

pub loop-place-preserved : goal.loop-place-preserved
loop-place-preserved c =
    let at = c.loop-place in
    let steps = c.in-Some.ensures.steps in
    record {
      left = one_taken at.yielded c.in-Some.place _ _ _ steps.0 at.invariant.left;
      so_far = rw c.in_ok-push.ensures.items (AllZip-push
          (IsExtendedPlace c.args.more.detailed c.args.more.chances.now c.args.layers.now.tolerances c.args.layers.now.reference
          c.args.map.now) at.yielded at.extended.items _ _ at.invariant.so_far
          (rw (← c.tolerances.ensures, ← c.reference.ensures) c.in_ok-extended_place.ensures));
      count = omega (
        arith,
        at.invariant.count,
        steps.1,
        ap (λ (l : List ShownPlace). length l) steps.0,
      );
    }

pub returns : goal.returns
returns c =
    let at = c.loop-place in
    subst (λ (l : List ShownPlace). AreExtendedPlaces c.args.more.detailed c.args.more.chances.now
    c.args.map.now c.args.layers.now l at.extended.items)
    (all_taken at.yielded _ _ at.invariant.left
    (sym at.invariant.count ∙ c.in-None.ensures.steps.0)
    ∙ c.into_iter-place-iterator.ensures.into_iter_gives.0) at.invariant.so_far
