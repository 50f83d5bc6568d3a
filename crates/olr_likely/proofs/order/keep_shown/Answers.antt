use Rattle.std.proofs.Common.{rules, tests}
use Rattle.olr_likely.specs.Order.{is_shown}
use Rattle.olr_likely.proofs.Kept.{retained}
use Rattle.olr_likely.proofs.order.keep_shown.Goals as goal

pub returns : goal.returns
returns c = retained _ (is_shown c.args.within c.args.least) _ (λ x b q k. search (rules, tests)) _ _
    c.retain.ensures.filtered
