use Rattle.olr_route.proofs.Spreading.{before_from_less, less_from_before, no_lines, none_behind, some_group}
use Rattle.olr_route.proofs.groups.Groups.last_before.Goals as goal

pub returns-in_default : goal.returns-in_default
returns-in_default c = λ length node before.
    no_lines c.args.self.now length node
    ((c.range.ensures.in_range tt).5 c.in_default.ensures.steps.0 (length, node)
    (tt, less_from_before length node c.args.key.0 c.args.key.1 before))

pub returns : goal.returns
returns c = (
  some_group c.args.self.now c.in-Some.before.now _
      ((c.range.ensures.in_range tt).3 _ _ c.in-Some.ensures.steps).1,
  before_from_less _ _ _ _
      ((c.range.ensures.in_range tt).3 _ _ c.in-Some.ensures.steps).0.1,
  λ length node before behind. none_behind c.args.self.now _ _ _
      (λ found. (c.range.ensures.in_range tt).4 _ _ c.in-Some.ensures.steps (length, node)
      (tt, less_from_before _ node c.args.key.0 c.args.key.1 before) found) behind,
)
