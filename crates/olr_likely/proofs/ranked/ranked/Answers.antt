use Rattle.std.proofs.Common.{List, length, sym, ap, subst, ◌∙◌, rules, arith}
use Rattle.olr_places.specs.declared.opener.Opener.{Opener}
use Rattle.olr_likely.specs.Ranked.{AreRanked}
use Rattle.olr_likely.proofs.Ranking.{one_more}
use Rattle.olr_likely.proofs.Turns.{all_taken, one_taken}
use Rattle.olr_likely.proofs.ranked.ranked.Goals as goal

pub loop-opener-preserved : goal.loop-opener-preserved
loop-opener-preserved c =
    let at = c.loop-opener in
    let steps = c.in-Some.ensures.steps in
    record {
      left = one_taken at.yielded c.in-Some.opener _ _ _ steps.0 at.invariant.left;
      so_far = rw c.in_ok-push.ensures.items
          (one_more c.args.map.now at.yielded at.ranked.items _ at.invariant.so_far (search rules)
          (search rules));
      count = omega (
        arith,
        at.invariant.count,
        steps.1,
        ap (λ (l : List Opener). length l) steps.0,
      );
    }

pub returns : goal.returns
returns c =
    let at = c.loop-opener in
    subst (λ (l : List Opener). AreRanked c.args.map.now l at.ranked.items)
    (all_taken at.yielded _ _ at.invariant.left
    (sym at.invariant.count ∙ c.in-None.ensures.steps.0)
    ∙ c.into_iter-opener-iterator.ensures.into_iter_gives.0) at.invariant.so_far
