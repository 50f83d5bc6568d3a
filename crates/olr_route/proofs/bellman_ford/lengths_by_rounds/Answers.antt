use Rattle.olr_route.proofs.Common.{Search, AreLengthsOn, None, inr, subst, sym, refl, arith}
use Rattle.olr_route.proofs.Ending.{held_by}
use Rattle.olr_route.proofs.Relaxing.{all_relaxed}
use Rattle.olr_route.proofs.Walks.{useful_within, within_more}
use Rattle.olr_route.proofs.bellman_ford.lengths_by_rounds.Goals as goal

pub returns-clause-held : goal.returns-clause-held
returns-clause-held c =
    let search : Search = record {
      map = c.args.map;
      class = c.args.class;
      from =
          c.args.from;
      limit = c.args.limit;
      goals = None;
    } in
    let last = c.in_ok-relax_lines.ensures in
    subst (AreLengthsOn c.args.map.now) (sym c.new-2.ensures)
    (held_by c.args.map.now _ c.sound.ensures c.requires (record {
      searched = c.args.limit;
      at_most = omega arith;
      knows = record {
        sound = last.lowered.sound;
        first = λ line clear turn useful.
            within_more _
            _
            _ (omega arith)
            (last.lowered.falls line _ (c.loop-starts.invariant.first line clear turn
            (omega (arith, useful_within c.args.map.now c.args.class None useful))));
      };
      settled = all_relaxed search c.loop-starts.starts c.loop-starts.starts
          c.relax_lines.new.starts last.offered (last.lowered.same c.if-branch.false) None;
      far = inr refl;
    }))
