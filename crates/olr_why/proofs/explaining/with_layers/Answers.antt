use Rattle.olr_why.proofs.AllReasons.{legs_in}
use Rattle.olr_why.proofs.explaining.with_layers.Goals as goal

pub returns-clause-verdict : goal.returns-clause-verdict
returns-clause-verdict c = c.verdict_of-verdict.ensures c.args.map.now c.requires

pub returns-clause-legs : goal.returns-clause-legs
returns-clause-legs c =
    legs_in c.no_lists_and_too_many.ensures c.requires c.verdict_of-verdict.result
    c.in_ok-legs.legs.items (c.verdict_of-verdict.ensures c.args.map.now c.requires)
    c.in_ok-legs.ensures
