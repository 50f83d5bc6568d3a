use Rattle.olr_records.proofs.Common.{rules, IsAmount}
use Rattle.olr_records.proofs.Signs.{begins_once}
use Rattle.olr_records.proofs.front.latitude_before.Goals as goal

pub returns-in_default : goal.returns-in_default
returns-in_default c = λ lat rest begins. c.in_default.ensures lat rest
    (record { front = begins.front; whole = begins.whole; spelled = begins.spelled.number })

pub returns-in_default-narrowed : goal.returns-in_default-narrowed
returns-in_default-narrowed c = λ lat rest begins.
    let same = begins_once _ _ _ _ _ _ c.requires
    (record { front = begins.front; whole = begins.whole; spelled = begins.spelled.number })
    c.in-Some.ensures in
    let none : IsAmount 80000000 c.in-Some.value → ⊥ = search rules in
    none (rw (← same.0) (begins.spelled.range.south, begins.spelled.range.north))
