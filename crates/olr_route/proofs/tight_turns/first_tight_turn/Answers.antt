use Rattle.olr_route.proofs.Common.{IsAllowed, ◌≡◌, ◌≤◌, ℕ, get_or, arith, subst, Contains, Contains-get_or}
use Rattle.olr_route.proofs.Lines.{passed_over}
use Rattle.olr_route.proofs.Tight.{lesser}
use Rattle.olr_route.proofs.tight_turns.first_tight_turn.Goals as goal

pub loop-next-preserved : goal.loop-next-preserved
loop-next-preserved c =
    let allowed = IsAllowed c.args.search.now.map.now c.args.place.line in
    let ahead = c.tight_ahead-ahead.result.now in
    let i = c.loop-next.next-index in
    record {
      among = λ rank is.
          let same : get_or ahead i 0 ≡ rank = cc in
          subst (λ (n : ℕ). Contains ahead n × allowed n) same
          (Contains-get_or ahead i 0 c.loop-next-test.true, c.if-not-is_allowed.ensures);
      least = passed_over allowed (λ n. get_or ahead i 0 ≤ n) ahead i
          (λ k d less may. lesser c.loop-next.first (get_or ahead i 0) (get_or ahead k d)
          (λ is. absurd (cc (c.has_up_to.ensures.1 is, c.if-has_up_to.false)))
          (c.loop-next.invariant.least k d less may))
          c.loop-next-test.true (λ _. omega arith);
    }
