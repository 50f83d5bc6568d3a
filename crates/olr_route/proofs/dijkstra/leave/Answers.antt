use Rattle.olr_route.proofs.Common.{◌-◌}
use Rattle.olr_route.proofs.Lines.{step_over}
use Rattle.olr_route.proofs.dijkstra.leave.Goals as goal

pub push_over-requires-clause-step : goal.push_over-requires-clause-step
push_over-requires-clause-step c =
    let ask = c.args.search.now in
    step_over _ _ c.line-line.result c.line-line.ensures.line
    (c.line-line.result.length - ask.from.at)
