use Rattle.olr_map.proofs.Common.{repeat, stopped, refl, ◌∙◌}
use Rattle.olr_map.proofs.table.first_fault.Goals as goal

pub returns : goal.returns
returns g c = repeat c.in-Some.place (rw (← (c.deref.ensures.value ∙ c.in_ok-keys.ensures))
    (rw c.in-Some.is at c.in_ok-place.ensures)) (cc)

pub returns-in_default : goal.returns-in_default
returns-in_default g c = stopped c.args.stop refl
    (rw (← (c.deref.ensures.value ∙ c.in_ok-keys.ensures))
    (rw c.in_default.is at c.in_ok-place.ensures)) refl
