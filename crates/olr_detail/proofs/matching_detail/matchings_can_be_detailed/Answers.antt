use Rattle.olr_detail.proofs.Matchings.{can_be_detailed}
use Rattle.olr_detail.proofs.matching_detail.matchings_can_be_detailed.Goals as goal

pub returns : goal.returns
returns c = can_be_detailed
