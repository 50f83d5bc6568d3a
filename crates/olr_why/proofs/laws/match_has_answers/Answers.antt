use Rattle.olr_why.proofs.OneVerdict as verdicts
use Rattle.olr_why.proofs.laws.match_has_answers.Goals as goal

pub returns : goal.returns
returns c = verdicts.match_has_answers c.matching_has_key.ensures c.no_lists_and_too_many.ensures
