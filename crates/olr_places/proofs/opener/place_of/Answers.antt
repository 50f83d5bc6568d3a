use Rattle.olr_places.proofs.Common.{is_close_to, entry_of, Opener, ◌≡◌, Bool, false, arith, sym, ap, ◌∙◌, All-more}
use Rattle.olr_places.proofs.FirstPlace.{first_at, none_at}
use Rattle.olr_places.proofs.opener.place_of.Goals as goal

pub returns-then-is_close-clause-place : goal.returns-then-is_close-clause-place
returns-then-is_close-clause-place c =
    first_at entry_of (is_close_to c.args.limits.now (entry_of c.args.opener.now))
    c.args.openers.now c.loop-index.index c.index-openers-index.result
    c.loop-index-test.true c.index-openers-index.is c.loop-index.invariant
    (sym c.is_close.ensures.value ∙ c.if-is_close.true)

pub loop-index-preserved : goal.loop-index-preserved
loop-index-preserved c =
    let test : Opener → Bool = λ (one : Opener). is_close_to c.args.limits.now
    (entry_of c.args.opener.now) (entry_of one) in
    All-more (λ (one : Opener). test one ≡ false) c.args.openers.now c.loop-index.index
    c.index-openers-index.result c.loop-index-test.true
    c.loop-index.invariant (sym (ap test c.index-openers-index.is)
    ∙ sym c.is_close.ensures.value ∙ c.if-is_close.false)

pub returns-clause-place : goal.returns-clause-place
returns-clause-place c = none_at _ _ c.args.openers.now c.loop-index.index
    (omega arith) c.loop-index.invariant
