use Rattle.olr_route.proofs.Common.{Reaches, table_in, IsKnownWithin, IsAllowed, ℕ, get_or, subst, sym, arith, Contains-get_or}
use Rattle.olr_route.proofs.Lines.{passed_over, all_ahead, turn_ahead}
use Rattle.olr_route.proofs.Relaxing.{lowered_more}
use Rattle.olr_route.proofs.bellman_ford.relax.Goals as goal

pub offer-requires-clause-reached : goal.offer-requires-clause-reached
offer-requires-clause-reached c =
    let ahead = c.lines_from-ahead.result.now in
    let next = get_or ahead _ 0 in
    subst (λ (w : ℕ). Reaches c.args.search.now next w) (sym c.in-Some.ensures.1)
    (c.requires.reached next c.in-Some.ensures.0
    (turn_ahead _ _ _ c.line.ensures.line _ c.lines_from-ahead.ensures.lines next
    (Contains-get_or ahead _ 0 c.loop-next-test.true)
    c.if-not-is_allowed.ensures))

pub loop-next-preserved : goal.loop-next-preserved
loop-next-preserved c =
    let after = c.in_ok-kept.ensures in
    record {
      lowered = lowered_more _ _ _ _ _ _ c.loop-next.invariant.lowered after.lowered;
      known = passed_over (IsAllowed c.args.search.now.map.now c.args.place.line)
          (λ n. IsKnownWithin (table_in c.args.search.now.map.now c.offer.new.starts n)
          c.in-Some.at_end)
          _ _
          (λ i d lt allowed. after.lowered.falls _ c.in-Some.at_end
          (c.loop-next.invariant.known i d lt allowed)) c.loop-next-test.true
          (λ _. after.known);
    }

pub returns-clause-offered : goal.returns-clause-offered
returns-clause-offered c = λ next clear turn within.
    let at = all_ahead _ _ _ c.line.ensures.line _ c.lines_from-ahead.ensures.lines next turn in
    rw (sym c.in-Some.ensures.1, sym at.2)
    (c.loop-next.invariant.known at.0 next (omega arith) (rw at.2 turn.allowed))
