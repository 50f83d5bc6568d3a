use Rattle.std.proofs.lemmas.List.{take_more}
use Rattle.olr_matching.proofs.LengthRows.{no_candidate, one_more_row}
use Rattle.olr_matching.proofs.lengths.lengths_of_leg.Goals as goal

pub push_row-requires-clause-search : goal.push_row-requires-clause-search
push_row-requires-clause-search c = c.at.ensures _ _ c.in_ok-index.ensures.found

pub loop-first-preserved : goal.loop-first-preserved
loop-first-preserved c =
    let leg = c.args.leg.now in
    let row = c.in_ok-push_row.ensures in
    record {
      rows = rw (
        take_more leg.firsts.now c.loop-first.first-index no_candidate c.loop-first-test.true,
        row.1,
      )
          (one_more_row leg.map.now leg.tolerances leg.next leg.seconds.now _ _
          c.loop-first.lengths.items row.0 c.loop-first.invariant.rows row.2);
      searches = c.in_ok-index.ensures.searches;
    }
