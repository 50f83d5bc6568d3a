use Rattle.std.proofs.Common.{refl}
use Rattle.olr_keys.proofs.Leaving.{left_by_bound, left_by_none}
use Rattle.olr_keys.proofs.bound_finder.longer.Goals as goal

pub returns-in_default : goal.returns-in_default
returns-in_default c =
    left_by_none _ _ _ _ _ _
    (rw (← c.len.ensures.value) c.in_default.ensures.step)

pub returns-then-is_held_before : goal.returns-then-is_held_before
returns-then-is_held_before c =
    left_by_bound _ _ _ _ _ _
    (rw (← c.len.ensures.value) c.in-Some.ensures.step.1) refl (cc)
    (c.is_held_before.ensures.0 c.if-is_held_before.true)
