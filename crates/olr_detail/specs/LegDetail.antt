-- What speaks for a leg: its length, beside the distance interval of the path and the class limit.
-- Lengths are in decimetres.
use Rattle.olr_binary.specs.declared.point.Next.{Next}
use Rattle.olr_candidates.specs.declared.tolerances.Tolerances.{Tolerances}
use Rattle.olr_matching.specs.Leg.{class_limit, interval_end, interval_start}
use Rattle.olr_matching.specs.declared.matched.Leg.{Leg}
use Rattle.olr_detail.specs.declared.leg_detail.LegDetail.{LegDetail}

-- A leg, the distance interval of its path before it is widened, and the greatest class of the
-- lines that its route may drive on.
abbrev pub leg_detail_of : Tolerances → Next → Leg → LegDetail
leg_detail_of tolerances next leg = record {
  length = leg.length;
  penalty = leg.penalty;
  least = interval_start next;
  greatest = interval_end next;
  limit = class_limit tolerances next;
}
