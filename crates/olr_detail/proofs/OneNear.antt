-- A line near a point has one distance and one sector.
use Rattle.std.proofs.Common.{◌≡◌, ◌∙◌, ap, refl, sym, ℕ, Bool, List, Option, Some, None}
use Rattle.std.specs.Prelude.{MatchOption}
use Rattle.olr_base.specs.Coordinates.{Coordinates}
use Rattle.olr_binary.specs.declared.point.Point.{Point}
use Rattle.olr_metric.specs.Polyline.{arc}
use Rattle.olr_metric.specs.Sector.{Direction, IsSector, direction, zero_direction}
use Rattle.olr_metric.specs.declared.polyline.Near.{Near}
use Rattle.olr_metric.specs.declared.spot.Spot.{Spot}
use Rattle.olr_road.specs.RoadMap.{RoadLine}
use Rattle.olr_candidates.specs.Near.{IsNearLine}
use Rattle.olr_candidates.specs.Projection.{HasBearing, bearing_arc}
use Rattle.olr_candidates.specs.declared.near.NearLine.{NearLine}
use Rattle.olr_candidates.specs.declared.tolerances.Tolerances.{Tolerances}
use Rattle.olr_detail.specs.Laws.{PlaneLaws}

module _ (laws : PlaneLaws) where
  one_sector_of : (d : Direction) (a b : Option ℕ)
      → MatchOption a (d ≡ zero_direction) (IsSector d)
      → MatchOption b (d ≡ zero_direction) (IsSector d) → a ≡ b
  one_sector_of d None None is other = refl
  one_sector_of d None (Some t) is other = absurd (laws.none t (rw (← is) other))
  one_sector_of d (Some s) None is other = absurd (laws.none s (rw (← other) is))
  one_sector_of d (Some s) (Some t) is other = ap (λ n. Some n) (laws.sector d s t is other)

  one_bearing : (polyline : List Spot) (is_last : Bool) (near : Near) (a b : Option ℕ)
      → HasBearing polyline is_last near a → HasBearing polyline is_last near b → a ≡ b
  one_bearing polyline is_last near a b has other =
      one_sector_of (direction near.spot has.ahead) a b has.sector_of
      (rw (← (laws.along polyline (bearing_arc is_last near.arc (arc polyline)) other.ahead
      has.ahead other.along has.along)) other.sector_of)

  module _ (tolerances : Tolerances) (origin : Coordinates) (point : Point) (is_last : Bool)
      (line : RoadLine) (rank : ℕ) (a b : NearLine)
      (is : IsNearLine tolerances origin point is_last line rank a)
      (other : IsNearLine tolerances origin point is_last line rank b) where
    same_near : other.is_projection.near ≡ is.is_projection.near
    same_near = laws.nearest _ _ _ _ other.is_projection.nearest is.is_projection.nearest

    pub one_distance : a.distance ≡ b.distance
    one_distance = is.describes.distance_is ∙ (is.is_projection.distance_is
        ∙ (ap (λ (n : Near). n.distance) (sym same_near)
        ∙ (sym other.is_projection.distance_is ∙ sym other.describes.distance_is)))

    pub one_near_sector : a.sector ≡ b.sector
    one_near_sector = is.describes.sector_is
        ∙ (one_bearing _ is_last is.is_projection.near _ _ is.is_projection.bearing
        (rw (← same_near) other.is_projection.bearing) ∙ sym other.describes.sector_is)
