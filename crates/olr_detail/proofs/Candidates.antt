-- What is known of the line of a candidate near its point.
use Rattle.std.proofs.Common.{◌≡◌, ◌+◌, ◌==◌, ◌<◌, ℕ, Bool, List, Option, None, Some, option_map, length, refl, arith, slice_get}
use Rattle.std.specs.Prelude.{IfSome, MatchOption}
use Rattle.olr_binary.specs.Reference.{points_of}
use Rattle.olr_binary.specs.declared.point.Point.{Point}
use Rattle.olr_binary.specs.declared.reference.Reference.{Reference}
use Rattle.olr_candidates.specs.Candidate.{penalty_of}
use Rattle.olr_candidates.specs.Laws.{CandidatesFailNone}
use Rattle.olr_candidates.specs.Near.{IsNearLineOf}
use Rattle.olr_candidates.specs.Points.{IsCandidateOf}
use Rattle.olr_candidates.specs.declared.candidate.Candidate.{Candidate}
use Rattle.olr_candidates.specs.declared.near.NearLine.{NearLine}
use Rattle.olr_candidates.specs.declared.projection.Projection.{Projection}
use Rattle.olr_candidates.specs.declared.tolerances.Tolerances.{Tolerances}
use Rattle.std.specs.Int.{abs_diff}
use Rattle.olr_metric.specs.Difference.{difference}
use Rattle.olr_metric.specs.Sector.{Direction, IsSector}
use Rattle.olr_road.specs.RoadMap.{RoadLine, head_of}
use Rattle.olr_road.specs.declared.line.Line.{Line}
use Rattle.olr_detail.specs.CandidateDetail.{IsDetailOf, detail_by, end_of, parts_of, sum_of}
use Rattle.olr_detail.specs.declared.candidate_detail.CandidateDetail.{CandidateDetail}
use Rattle.olr_detail.specs.declared.candidate_detail.PenaltyParts.{PenaltyParts}

-- the penalty by a projection is the sum of the parts by the line near the point
sum_is : (tolerances : Tolerances) (point : Point) (line : Line) (near : NearLine)
    (projection : Projection) (penalty : ℕ) → near.distance ≡ projection.distance
    → near.sector ≡ projection.sector → penalty ≡ penalty_of tolerances point line projection
    → penalty ≡ sum_of (parts_of tolerances point line near)
sum_is tolerances point line near projection penalty distance_is sector_is is =
    rw (distance_is, sector_is, is) (omega arith)

-- a sector, where there is one, is one of 32
of_32 : (A : Type 0) (sector : Option ℕ) (direction : Direction)
    → MatchOption sector A (IsSector direction) → IfSome sector (λ sector. sector < 32)
of_32 A None direction is = tt
of_32 A (Some sector) direction is = is.in_range

-- what is found in a list is one thing
one_found : {A : Type 0} (found : Option A) (a b : A) → found ≡ Some a → found ≡ Some b → a ≡ b
one_found found a b is other = cc

-- and so is its head
one_head : (found : Option RoadLine) (line : RoadLine) (head : Line) → found ≡ Some line
    → option_map head_of found ≡ Some head → head_of line ≡ head
one_head found line head is other = cc

-- what is told of a candidate
pub told : (tolerances : Tolerances) (point : Point) (is_last : Bool) (line : Line)
    (near : NearLine) (candidate : Candidate) (parts : PenaltyParts) (sectors classes end : ℕ)
    → parts ≡ parts_of tolerances point line near → sectors ≡ difference near.sector point.sector
    → classes ≡ abs_diff line.class point.class
    → end ≡ end_of is_last line.length candidate.place.at
    → record {
      candidate = candidate;
      parts = parts;
      distance = near.distance;
      sectors = sectors;
      classes = classes;
      form = line.form;
      end = end;
    } ≡ detail_by tolerances point is_last line near candidate
told tolerances point is_last line near candidate parts sectors classes end p s c e =
    rw (p, s, c, e) refl

module _ (tolerances : Tolerances) (reference : Reference) (lines : List RoadLine) (index : ℕ) where
  -- its penalty is the sum of the parts
  pub penalty_is_sum : CandidatesFailNone → (candidate : Candidate) (near : NearLine)
      (point : Point) (line : Line)
      → IsNearLineOf tolerances reference lines index candidate.place.line near
      → IsCandidateOf tolerances reference lines index candidate.place.line candidate
      → slice_get (points_of reference) index ≡ Some point
      → option_map head_of (slice_get lines candidate.place.line) ≡ Some line
      → candidate.penalty ≡ sum_of (parts_of tolerances point line near)
  penalty_is_sum law candidate near point line is of_point point_is line_is =
      let same = (law _ _ _ _ _ near candidate is of_point).1 in
      let describes = is.just.2.describes in
      let known = rw same.penalty_is at describes.penalty in
      let same_point = one_found _ is.point point is.point_is point_is in
      let same_line = one_head _ is.just.0 line is.just.1 line_is in
      rw (← same_point, ← same_line) (sum_is tolerances is.point (head_of is.just.0) near
      is.just.2.projection candidate.penalty describes.distance_is
      describes.sector_is known.1)

  -- its sector is one of 32
  pub sector_in_range : (rank : ℕ) (near : NearLine)
      → IsNearLineOf tolerances reference lines index rank near
      → IfSome near.sector (λ sector. sector < 32)
  sector_in_range rank near is =
      let near_line = is.just.2 in
      rw near_line.describes.sector_is (of_32 _ _ _ near_line.is_projection.bearing.sector_of)

  -- what speaks for it is what is told by its line near the point
  pub detail_at : (candidate : Candidate) (near : NearLine) (point : Point) (line : Line)
      (detail : CandidateDetail)
      → IsNearLineOf tolerances reference lines index candidate.place.line near
      → slice_get (points_of reference) index ≡ Some point
      → option_map head_of (slice_get lines candidate.place.line) ≡ Some line
      → detail ≡ detail_by tolerances point (index + 1 == length (points_of reference)) line near
      candidate
      → IsDetailOf tolerances reference lines index candidate detail
  detail_at candidate near point line detail is point_is line_is detail_is =
      let same_point = one_found _ is.point point is.point_is point_is in
      let same_line = one_head _ is.just.0 line is.just.1 line_is in
      record {
        first = is.first;
        point = is.point;
        first_is = is.first_is;
        point_is = is.point_is;
        just = record {
          line = is.just.0;
          near = near;
          line_is = is.just.1;
          is_near = is.just.2;
          detail_is = rw (← same_point, ← same_line) at detail_is;
        };
      }
