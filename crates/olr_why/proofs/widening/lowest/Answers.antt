use Rattle.olr_why.proofs.Common.{IsEnough, Lowest, ℕ, ◌<◌, below_more, refl, arith}
use Rattle.olr_why.proofs.Halving.{none_up_to_greatest}
use Rattle.olr_why.proofs.Tried.{least_enough}
use Rattle.olr_why.proofs.widening.lowest.Goals as goal

pub returns-in-Some : goal.returns-in-Some
returns-in-Some c = (
  c.loop-value.value,
  c.in-Some.key,
  refl,
  refl,
  least_enough c.matching_has_key.ensures (omega (arith, c.loop-value.auto.value))
      (λ lesser above less. c.loop-value.invariant lesser less above)
      (rw c.in-Some.is at c.in_ok-key.ensures),
)

pub loop-value-preserved : goal.loop-value-preserved
loop-value-preserved c = below_more
    (λ (value : ℕ). c.args.on.now.tolerances.lowest < value
    → IsEnough c.args.on.now.map.now c.args.on.now.tolerances c.args.on.now.reference.now
    Lowest value → ⊥)
    c.loop-value.value c.loop-value.invariant (λ above. rw c.in_default.is at c.in_ok-key.ensures)

pub returns : goal.returns
returns c = none_up_to_greatest (λ value above less enough. c.loop-value.invariant value
    (omega (arith, less, c.loop-value-test.false)) above enough)
