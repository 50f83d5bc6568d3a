use Rattle.std.proofs.Common.{◌≡◌, List}
use Rattle.olr_binary.specs.declared.reference.Reference.{Reference}
use Rattle.olr_matching.specs.declared.matched.Leg.{Leg}
use Rattle.olr_matching.specs.declared.matched.Matched.{Matched}
use Rattle.olr_detail.specs.MatchingDetail.{LeadOn}
use Rattle.olr_detail.proofs.matching_detail.detail_of_matching.Goals as goal

same_legs : (reference : Reference) (legs : List Leg) (shown matched : Matched) → shown ≡ matched
    → legs ≡ shown.legs → LeadOn reference matched.legs → LeadOn reference legs
same_legs reference legs shown matched is legs_are lead = rw (legs_are, is) lead

pub leg_details-requires : goal.leg_details-requires
leg_details-requires c = same_legs _ _ _ c.args.matched.now c.matched.view_is c.deref-2.ensures.value
    c.requires.matched.legs
