-- What is kept of a line that is measured.
use Rattle.std.specs.Prelude.{◌≡◌, ℕ, suc, ◌*◌, ◌^◌, ◌<◌, ◌≤◌, All, List, length, slice_index}
use Rattle.olr_metric.specs.Polyline.{arc_at}
use Rattle.olr_metric.specs.declared.spot.Spot.{Spot}
use Rattle.olr_road.specs.RoadMap.{RoadLine}
use Rattle.olr_shape.specs.Position.{polyline_of}

-- These are the arcs of the spots of a polyline. They rise.
pub record AreArcs (polyline : List Spot) (arcs : List ℕ) : Type 0 where
  pub count : length arcs ≡ length polyline
  pub each : (i : ℕ) → i < length polyline → slice_index arcs i ≡ arc_at polyline i
  pub rise : (i : ℕ) → suc i < length polyline → arc_at polyline i < arc_at polyline (suc i)
  pub at_most : All (λ arc. arc ≤ 66 * 2 ^ 35) arcs

-- A line can be measured: it has two points at least, the arcs of which rise, and its length is in
-- its range.
pub record IsMeasurable (line : RoadLine) : Type 0 where
  pub at_least : 2 ≤ length line.points
  pub rise : (i : ℕ) → suc i < length line.points
      → arc_at (polyline_of line.points) i < arc_at (polyline_of line.points) (suc i)
  pub long : 1 ≤ line.length
  pub short : line.length ≤ 10000000

-- the line can be measured, and these are the arcs of its points
pub record IsMeasured (line : RoadLine) (arcs : List ℕ) : Type 0 where
  pub measurable : IsMeasurable line
  pub arcs_are : AreArcs (polyline_of line.points) arcs
