-- Where a position of a line lies on the map, in microdegrees. Positions and lengths of lines are
-- in decimetres. Arcs, which are lengths along the polyline of a line in the plane that has its
-- origin at the line's first point, are in centimetres. A line's length is the map's, and needn't
-- be that of its polyline: a position lies at the same share of both.
-- (Spots are this project's choice: references have none.)
use Rattle.std.specs.Prelude.{ℕ, suc, ℤ, pos, ◌-◌, ◌*◌, ◌+ℤ◌, ◌-ℤ◌, ◌*ℤ◌, Bool, List, [], ◌∷◌, Option, find, map, nat_le, option_and_then, option_map, slice_get}
use Rattle.olr_base.specs.Coordinates.{Coordinates}
use Rattle.olr_metric.specs.Floor.{floor}
use Rattle.olr_metric.specs.Plane.{spot_of}
use Rattle.olr_metric.specs.Polyline.{arc, arc_at}
use Rattle.olr_metric.specs.declared.spot.Spot.{Spot}
use Rattle.olr_road.specs.RoadMap.{RoadLine, RoadMap}
use Rattle.olr_road.specs.declared.place.Place.{Place}

-- ---- shares

-- n / d for d greater than 0, to the nearest whole number, halves up
abbrev pub nearest_whole : ℤ → ℕ → ℤ
nearest_whole n d = floor (n *ℤ pos 2 +ℤ pos d) (2 * d)

-- the number at part / whole of the way from p to q, to the nearest whole number, halves up
abbrev pub share_between : ℤ → ℤ → ℕ → ℕ → ℤ
share_between p q part whole = p +ℤ nearest_whole ((q -ℤ p) *ℤ pos part) whole

-- the coordinates at part / whole of the way from p to q, each to the nearest microdegree
abbrev pub coordinates_between : Coordinates → Coordinates → ℕ → ℕ → Coordinates
coordinates_between p q part whole = record {
  lon = share_between p.lon q.lon part whole;
  lat = share_between p.lat q.lat part whole;
}

-- ---- segments

-- a segment of a line: its number, counted from 0, and the points at its ends
pub record Segment : Type 0 where
  pub number : ℕ
  pub p : Coordinates
  pub q : Coordinates

-- the segments between points, numbered from i
abbrev pub segments_from : ℕ → List Coordinates → List Segment
segments_from i [] = []
segments_from i (p ∷ []) = []
segments_from i (p ∷ q ∷ rest) =
    record { number = i; p = p; q = q } ∷ segments_from (suc i) (q ∷ rest)

-- ---- positions

-- the polyline of points, in the plane that has its origin at the first of them
abbrev pub polyline_of : List Coordinates → List Spot
polyline_of [] = []
polyline_of (first ∷ others) = map (spot_of first) (first ∷ others)

-- Arcs on a line with these points and of this length are given as multiples of 1 / length, so that
-- they are whole numbers.
module _ (points : List Coordinates) (length : ℕ) where
  -- the arc of a position: the same share of the whole arc as the position is of the length
  abbrev pub arc_of_position : ℕ → ℕ
  arc_of_position at = arc (polyline_of points) * at

  -- the arc of the point of this number, counted from 0
  abbrev pub arc_of_point : ℕ → ℕ
  arc_of_point i = arc_at (polyline_of points) i * length

  module _ (at : ℕ) where
    -- whether the end of a segment has at least the arc of the position
    abbrev pub reaches : Segment → Bool
    reaches segment = nat_le (arc_of_position at) (arc_of_point (suc segment.number))

    -- the spot of the position on a segment: at the share of it that the arc beyond its start is of
    -- its own arc
    abbrev pub spot_within : Segment → Coordinates
    spot_within segment = coordinates_between segment.p segment.q
        (arc_of_position at - arc_of_point segment.number)
        (arc_of_point (suc segment.number) - arc_of_point segment.number)

    -- the spot of the position: that on the first segment that reaches it; none where it is beyond
    -- the length
    abbrev pub spot_at : Option Coordinates
    spot_at = option_map spot_within (find reaches (segments_from 0 points))

-- ---- places

-- the spot of a place; none where the map has no such line, or the place is beyond its end
unfoldable pub spot_on : RoadMap → Place → Option Coordinates
spot_on road place = option_and_then
    (λ (line : RoadLine). spot_at line.points line.length place.at)
    (slice_get road.lines place.line)
