use Rattle.olr_road.proofs.Common.{lines_in, IsStepOf, refl, arith, ◌<◌, length, take_all, All-get_or, All-push, All-same}
use Rattle.olr_road.proofs.Steps.{is_step, line_ranks_of_more}
use Rattle.olr_road.proofs.step.steps_of.Goals as goal

pub loop-rank-preserved : goal.loop-rank-preserved
loop-rank-preserved c =
    let pushed = c.in_ok-push.ensures.items in
    let inside = All-get_or (λ rank. rank < length c.args.entries.now) _ _ 0 c.loop-rank-test.true
    c.requires in
    record {
      lines = line_ranks_of_more _ _ _ _ _ c.loop-rank-test.true refl pushed
          c.loop-rank.invariant.lines;
      steps = λ points. All-same (IsStepOf (lines_in points c.args.entries.now)) _ _ pushed
          (All-push (IsStepOf (lines_in points c.args.entries.now)) _ _
          (c.loop-rank.invariant.steps points) (is_step points c.args.entries.now _ _ inside));
    }

pub returns-clause-lines : goal.returns-clause-lines
returns-clause-lines c = cc (take_all c.loop-rank.rank-index c.args.lines.now (omega arith))
