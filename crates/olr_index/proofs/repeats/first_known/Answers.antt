use Rattle.olr_index.proofs.Common.{sym, ◌∙◌, not-false, not-true}
use Rattle.olr_index.proofs.Known.{one_more_known, known_again, all_known}
use Rattle.olr_index.proofs.repeats.first_known.Goals as goal

pub returns-then-not-is_new : goal.returns-then-not-is_new
returns-then-not-is_new c = known_again _ _ c.loop-place.invariant c.loop-place-test.true
    (not-false _ (sym c.in_ok-is_new.ensures.added ∙ c.if-not-is_new.true))

pub loop-place-preserved : goal.loop-place-preserved
loop-place-preserved c = one_more_known _ _ _ c.loop-place.invariant c.loop-place-test.true
    (not-true _ (sym c.in_ok-is_new.ensures.added ∙ c.if-not-is_new.false))
    c.in_ok-is_new.ensures.updates

pub returns : goal.returns
returns c = all_known _ _ c.loop-place.invariant c.loop-place-test.false
