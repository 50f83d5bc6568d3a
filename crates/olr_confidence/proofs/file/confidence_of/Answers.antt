use Rattle.serde_json.specs.View.{view}
use Rattle.olr_confidence.proofs.Missing.{without_asked, without_weights, without_range}
use Rattle.olr_confidence.proofs.file.confidence_of.Goals as goal

pub returns-in_default-clause-missing : goal.returns-in_default-clause-missing
returns-in_default-clause-missing c =
    without_asked (view c.args.content.now) c.in_default.ensures.missing

pub returns-in_default-weights_of-clause-missing :
    goal.returns-in_default-weights_of-clause-missing
returns-in_default-weights_of-clause-missing c =
    without_weights (view c.args.content.now) c.in_default-weights_of.ensures.missing

pub returns-in_default-range_of-clause-missing : goal.returns-in_default-range_of-clause-missing
returns-in_default-range_of-clause-missing c =
    without_range (view c.args.content.now) c.in_default-range_of.ensures.missing
