use Rattle.olr_matching.proofs.Common.{[], slice_index_or, lengths_of, ArePenaltiesOfLeg}
use Rattle.olr_matching.proofs.Lists.{HoldsOfAll}
use Rattle.olr_matching.proofs.penalties.penalties_of_legs.Given as goal

-- each leg so far has its penalties
abbrev pub invariant-loop-layer : goal.invariant-loop-layer
invariant-loop-layer l = HoldsOfAll
    (λ layer penalties. ArePenaltiesOfLeg l.reference layer
    (slice_index_or (lengths_of l.lengths) layer []) penalties) [] l.layer (lengths_of l.legs.items)
