use Rattle.std.proofs.Common.{List, length, map, sym, ap, refl, ◌∙◌, arith}
use Rattle.olr_places.specs.declared.opener.Opener.{Opener}
use Rattle.olr_likely.specs.Showing.{shown_by_total}
use Rattle.olr_likely.proofs.Turns.{all_taken, one_made, one_taken}
use Rattle.olr_likely.proofs.showing.places_by_total.Goals as goal

pub loop-opener-preserved : goal.loop-opener-preserved
loop-opener-preserved c =
    let at = c.loop-opener in
    let steps = c.in-Some.ensures.steps in
    record {
      left = one_taken at.yielded c.in-Some.opener _ _ _ steps.0 at.invariant.left;
      so_far = rw c.in_ok-push.ensures.items
          (one_made at.yielded shown_by_total at.shown.items c.in-Some.opener _ at.invariant.so_far refl);
      count = omega (
        arith,
        at.invariant.count,
        steps.1,
        ap (λ (l : List Opener). length l) steps.0,
      );
    }

pub returns : goal.returns
returns c =
    let at = c.loop-opener in
    at.invariant.so_far
    ∙ ap (map shown_by_total)
    (all_taken at.yielded _ _ at.invariant.left
    (sym at.invariant.count ∙ c.in-None.ensures.steps.0)
    ∙ c.into_iter-opener-iterator.ensures.into_iter_gives.0)
