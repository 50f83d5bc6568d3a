use Rattle.olr_why.proofs.Common.{◌-◌, IsBracket}
use Rattle.olr_why.proofs.widening.least_between.Given as goal

abbrev pub invariant-loop-bracket : goal.invariant-loop-bracket
invariant-loop-bracket l = IsBracket l.on.map.now l.on.tolerances l.on.reference.now l.name
    l.bracket

abbrev pub decreases-loop-bracket : goal.decreases-loop-bracket
decreases-loop-bracket l = l.bracket.high - l.bracket.low
