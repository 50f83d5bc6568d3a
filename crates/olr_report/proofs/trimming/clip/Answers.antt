use Rattle.std.proofs.Common.{◌+◌, refl}
use Rattle.olr_report.proofs.StepLists.{clipped_steps}
use Rattle.olr_report.proofs.trimming.clip.Goals as goal

pub returns-clause-steps : goal.returns-clause-steps
returns-clause-steps c = clipped_steps c.args.piece (record {
  line = c.args.piece.line;
  from = c.args.piece.from + c.min-skipped.result;
  to = c.args.piece.from + c.min-skipped.result + c.min-taken.result;
}) c.args.skip c.args.most refl (cc) (cc)
