use Rattle.std.proofs.Common.{◌≡◌, ℕ, Some, length, slice_get}
use Rattle.olr_matching.specs.declared.matched.Leg.{Leg}
use Rattle.olr_detail.specs.MatchingDetail.{IsLegDetailAt}
use Rattle.olr_detail.specs.declared.leg_detail.LegDetail.{LegDetail}
use Rattle.olr_detail.proofs.matching_detail.leg_details.Given as goal

abbrev pub invariant-loop-index : goal.invariant-loop-index
invariant-loop-index l = (length l.details.items ≡ l.index)
    × ((k : ℕ) (detail : LegDetail) → slice_get l.details.items k ≡ Some detail
    → (leg : Leg) → slice_get l.legs k ≡ Some leg
    → IsLegDetailAt l.on.tolerances l.on.reference.now k leg detail)
