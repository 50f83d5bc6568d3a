use Rattle.serde_json.specs.View.{view}
use Rattle.olr_confidence.proofs.Missing.{no_file}
use Rattle.olr_confidence.proofs.confidence.Confidence.read.Goals as goal

pub returns-in_default-clause-bad : goal.returns-in_default-clause-bad
returns-in_default-clause-bad c bad = no_file c.args.bytes.now (view c.in_ok-content.content)
    c.in_ok-content.ensures.found.1 c.in_default.ensures.missing
