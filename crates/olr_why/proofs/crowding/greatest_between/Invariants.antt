use Rattle.olr_why.specs.declared.trial.Trial.TheVariants.{Crowded}
use Rattle.olr_why.proofs.Common.{◌-◌, ◌<◌, ◌≤◌, IsTrialWith, IsUncrowdedWith}
use Rattle.olr_why.proofs.crowding.greatest_between.Given as goal

abbrev pub invariant-loop-crowded : goal.invariant-loop-crowded
invariant-loop-crowded l = record {
  low : l.fn.low ≤ l.value;
  lower : l.value < l.crowded;
  high : l.crowded ≤ l.fn.high;
  is_uncrowded : l.fn.low < l.value → IsUncrowdedWith l.fn.on.map.now l.fn.on.tolerances
      l.fn.on.reference.now l.fn.name l.value;
  is_crowded : l.crowded < l.fn.high → IsTrialWith l.fn.on.map.now l.fn.on.tolerances
      l.fn.on.reference.now l.fn.name l.crowded Crowded;
}

abbrev pub decreases-loop-crowded : goal.decreases-loop-crowded
decreases-loop-crowded l = l.crowded - l.value
