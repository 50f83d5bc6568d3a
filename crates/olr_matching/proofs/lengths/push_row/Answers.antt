use Rattle.olr_matching.proofs.Common.{◌++◌, [], ◌∷◌, append_assoc, take_more}
use Rattle.olr_matching.proofs.LengthRows.{no_candidate, one_more_length}
use Rattle.olr_matching.proofs.lengths.push_row.Goals as goal

pub loop-second-preserved : goal.loop-second-preserved
loop-second-preserved c =
    let leg = c.args.leg.now in
    let row = c.loop-second.invariant.0 in
    let found = c.admitted_length.result in (
      row ++ found ∷ [],
      rw (c.in_ok-push.ensures.items, c.loop-second.invariant.1) (append_assoc _ row (found ∷ [])),
      rw (take_more leg.seconds.now c.loop-second.second-index no_candidate c.loop-second-test.true)
          (one_more_length _ _ _ _ _ _ _ _ c.loop-second.invariant.2 c.admitted_length.ensures),
    )
