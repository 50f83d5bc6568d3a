-- What speaks for a candidate of a point: the parts of its penalty, and what they are made of.
-- Points are counted from 0.
use Rattle.std.specs.Prelude.{◌≡◌, ℕ, ◌+◌, ◌-◌, ◌*◌, ◌/◌, Bool, true, false, List, Some, slice_get}
use Rattle.std.specs.Int.{abs_diff}
use Rattle.olr_base.specs.Coordinates.{Coordinates}
use Rattle.olr_binary.specs.declared.point.Point.{Point}
use Rattle.olr_binary.specs.declared.reference.Reference.{Reference}
use Rattle.olr_metric.specs.Difference.{difference}
use Rattle.olr_road.specs.RoadMap.{RoadLine, head_of}
use Rattle.olr_road.specs.declared.line.Line.{Line}
use Rattle.olr_candidates.specs.Form.{form_penalty}
use Rattle.olr_candidates.specs.Near.{IsNearLine}
use Rattle.olr_candidates.specs.Points.{HoldsAt}
use Rattle.olr_candidates.specs.declared.candidate.Candidate.{Candidate}
use Rattle.olr_candidates.specs.declared.near.NearLine.{NearLine}
use Rattle.olr_candidates.specs.declared.tolerances.Tolerances.{Tolerances}
use Rattle.olr_detail.specs.declared.candidate_detail.CandidateDetail.{CandidateDetail}
use Rattle.olr_detail.specs.declared.candidate_detail.PenaltyParts.{PenaltyParts}

-- The four parts of the penalty of a line near a point: 10 for each sector by which the bearings
-- differ, 10 for each class, the distance in hundredths of the radius, rounded down, and what a
-- different form of way adds.
abbrev pub parts_of : Tolerances → Point → Line → NearLine → PenaltyParts
parts_of tolerances point line near = record {
  bearing = 10 * difference near.sector point.sector;
  class = 10 * abs_diff line.class point.class;
  distance = near.distance / tolerances.radius;
  form = form_penalty line.form point.form;
}

-- their sum
abbrev pub sum_of : PenaltyParts → ℕ
sum_of parts = parts.bearing + parts.class + parts.distance + parts.form

-- How far a position on a line of this length lies from the line's proper end: from its start, or
-- at the last point of a reference from its end. In decimetres.
abbrev pub end_of : Bool → ℕ → ℕ → ℕ
end_of true length at = length - at
end_of false length at = at

-- what speaks for a candidate of a point, by what is known of its line near the point
abbrev pub detail_by : Tolerances → Point → Bool → Line → NearLine → Candidate → CandidateDetail
detail_by tolerances point is_last line near candidate = record {
  candidate = candidate;
  parts = parts_of tolerances point line near;
  distance = near.distance;
  sectors = difference near.sector point.sector;
  classes = abs_diff line.class point.class;
  form = line.form;
  end = end_of is_last line.length candidate.place.at;
}

-- This is what speaks for a candidate of a point of the reference that has its first point at the
-- origin.
pub record IsDetailAt (tolerances : Tolerances) (origin : Coordinates) (point : Point)
    (is_last : Bool) (lines : List RoadLine) (candidate : Candidate) (detail : CandidateDetail)
    : Type 0 where
  pub line : RoadLine
  pub near : NearLine
  pub line_is : slice_get lines candidate.place.line ≡ Some line
  pub is_near : IsNearLine tolerances origin point is_last line candidate.place.line near
  pub detail_is : detail ≡ detail_by tolerances point is_last (head_of line) near candidate

-- and this is what speaks for a candidate of the point of this index
abbrev pub IsDetailOf : Tolerances → Reference → List RoadLine → ℕ → Candidate → CandidateDetail
    → Type 0
IsDetailOf tolerances reference lines index candidate detail = HoldsAt reference index
    (λ origin point is_last. IsDetailAt tolerances origin point is_last lines candidate detail)
