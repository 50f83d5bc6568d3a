-- What speaks for a matching, as a value.
use Rattle.std.specs.Prelude.{List}
use Rattle.olr_detail.specs.declared.candidate_detail.CandidateDetail.{CandidateDetail}
use Rattle.olr_detail.specs.declared.cost.LikelyCost.{LikelyCost}
use Rattle.olr_detail.specs.declared.leg_detail.LegDetail.{LegDetail}

-- what speaks for the candidate of each point, for each leg, and as a whole
pub record MatchingDetailValue : Type 0 where
  pub points : List CandidateDetail
  pub legs : List LegDetail
  pub likely : LikelyCost
