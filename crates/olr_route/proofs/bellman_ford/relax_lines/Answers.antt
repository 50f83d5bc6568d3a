use Rattle.olr_route.proofs.Common.{suc, sym, ◌∙◌, arith}
use Rattle.olr_route.proofs.Relaxing.{lowered_more, offered_more, same_length}
use Rattle.olr_route.proofs.bellman_ford.relax_lines.Goals as goal

pub loop-line-preserved-in_default : goal.loop-line-preserved-in_default
loop-line-preserved-in_default c = record {
  lowered = c.loop-line.invariant.lowered;
  offered = offered_more c.args.search.now c.args.starts.now c.loop-line.starts c.loop-line.starts
      c.loop-line.line c.loop-line.invariant.lowered.falls (λ _ _ known. known)
      c.loop-line.invariant.offered
      (λ at_start is. let none = sym is ∙ sym c.length_to.ensures
      ∙ c.in_default.is in absurd cc);
}

pub relax-requires-clause-reached : goal.relax-requires-clause-reached
relax-requires-clause-reached c = λ next clear turn.
    let reached =
    (c.loop-line.invariant.lowered.sound c.loop-line.line c.in-Some.at_start
    (sym c.length_to.ensures ∙ c.in-Some.is)).1 in
    (suc reached.0, (c.loop-line.line, c.in-Some.at_start, reached.1, clear, turn, omega arith))

pub loop-line-preserved : goal.loop-line-preserved
loop-line-preserved c =
    let after = c.in_ok-found.ensures in
    record {
      lowered = lowered_more _ _ _ _ _ _ c.loop-line.invariant.lowered after.lowered;
      offered = offered_more c.args.search.now c.args.starts.now c.loop-line.starts
          c.relax.new.starts c.loop-line.line c.loop-line.invariant.lowered.falls
          after.lowered.falls c.loop-line.invariant.offered
          (λ at_start is. rw (same_length _ _ _ (sym c.length_to.ensures
          ∙ c.in-Some.is) is) at after.offered);
    }
