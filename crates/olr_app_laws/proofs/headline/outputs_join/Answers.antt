use Rattle.olr_app_laws.proofs.OneAnswer.{refused_by_name}
use Rattle.olr_app_laws.proofs.HeadlineRuns.{one_matchings}
use Rattle.olr_app_laws.proofs.headline.outputs_join.Goals as goal

pub returns-clause-one : goal.returns-clause-one
returns-clause-one c = one_matchings c.laws_below.ensures

pub returns-clause-refused : goal.returns-clause-refused
returns-clause-refused c = refused_by_name c.laws_below.ensures.outcome
