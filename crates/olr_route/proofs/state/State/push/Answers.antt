use Rattle.olr_route.proofs.Visiting.{step_over}
use Rattle.olr_route.proofs.state.State.push.Goals as goal

pub push_over-requires-clause-step : goal.push_over-requires-clause-step
push_over-requires-clause-step c = step_over _ _ c.requires.step
