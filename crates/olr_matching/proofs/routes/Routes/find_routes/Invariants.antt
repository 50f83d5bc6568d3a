use Rattle.std.proofs.Common.{◌≡◌}
use Rattle.olr_matching.proofs.routes.Routes.find_routes.Given as goal

abbrev pub invariant-loop-leg : goal.invariant-loop-leg
invariant-loop-leg l = l.self ≡ l.fn.self

abbrev pub invariant-loop-key : goal.invariant-loop-key
invariant-loop-key l = l.self ≡ l.fn.self
