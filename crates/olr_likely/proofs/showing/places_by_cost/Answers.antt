use Rattle.std.proofs.Common.{List, length, map, sym, ap, refl, ◌∙◌, arith}
use Rattle.olr_likely.specs.declared.ranked.RankedPlace.{RankedPlace}
use Rattle.olr_likely.specs.Showing.{shown_by_cost}
use Rattle.olr_likely.proofs.Turns.{all_taken, one_made, one_taken}
use Rattle.olr_likely.proofs.showing.places_by_cost.Goals as goal

pub loop-place-preserved : goal.loop-place-preserved
loop-place-preserved c =
    let at = c.loop-place in
    let steps = c.in-Some.ensures.steps in
    record {
      left = one_taken at.yielded c.in-Some.place _ _ _ steps.0 at.invariant.left;
      so_far = rw c.in_ok-push.ensures.items
          (one_made at.yielded shown_by_cost at.shown.items c.in-Some.place _ at.invariant.so_far refl);
      count = omega (
        arith,
        at.invariant.count,
        steps.1,
        ap (λ (l : List RankedPlace). length l) steps.0,
      );
    }

pub returns : goal.returns
returns c =
    let at = c.loop-place in
    at.invariant.so_far
    ∙ ap (map shown_by_cost)
    (all_taken at.yielded _ _ at.invariant.left
    (sym at.invariant.count ∙ c.in-None.ensures.steps.0)
    ∙ c.into_iter-place-iterator.ensures.into_iter_gives.0)
