use Rattle.olr_app_laws.proofs.OneAnswer.{answer_once}
use Rattle.olr_app_laws.proofs.laws.one_answer.Goals as goal

pub returns : goal.returns
returns c = answer_once c.laws_below.ensures
