use Rattle.olr_keys.proofs.Common.{length, ◌-◌, option_map}
use Rattle.olr_keys.proofs.Beginnings.{IsLeastBelow}
use Rattle.olr_keys.proofs.bound_finder.+least_from.Given as goal

abbrev pub decreases-least_from : goal.decreases-least_from
decreases-least_from l = length l.bounds.now.candidates - length l.beginning.ranks.items

abbrev pub invariant-loop-index : goal.invariant-loop-index
invariant-loop-index l = IsLeastBelow l.bounds l.beginning.before l.beginning.total
    l.beginning.ranks.items
    (option_map (λ at. at.now) l.after) l.fn.held l.index l.least
