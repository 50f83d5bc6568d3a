use Rattle.std.proofs.Common.{sym}
use Rattle.serde_json.specs.View.{view}
use Rattle.olr_confidence.proofs.Missing.{no_weights}
use Rattle.olr_confidence.proofs.file.weights_of.Goals as goal

pub returns-in_default-clause-missing : goal.returns-in_default-clause-missing
returns-in_default-clause-missing c = no_weights (view c.args.content.now)
    (view c.in_ok-member.member.now) (sym c.in_ok-member.ensures) c.in_default.ensures.missing
