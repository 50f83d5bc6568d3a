use Rattle.olr_why.proofs.OneVerdict as verdicts
use Rattle.olr_why.proofs.laws.one_verdict.Goals as goal

pub returns : goal.returns
returns c = verdicts.one_verdict
