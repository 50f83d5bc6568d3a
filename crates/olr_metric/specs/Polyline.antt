-- Polylines: spots that are joined by straight segments. Lengths and arcs are in centimetres; an
-- arc is a length along the polyline from its start.
use Rattle.std.specs.Prelude.{◌≡◌, ◌≢◌, ℕ, suc, ◌+◌, ◌-◌, ◌<◌, ◌≤◌, min, List, [], ◌∷◌, Some, All, length, slice_get, take}
use Rattle.olr_metric.specs.declared.spot.Spot.{Spot}
use Rattle.olr_metric.specs.declared.polyline.Near.{Near}
use Rattle.olr_metric.specs.Spot.{distance, IsInPlane}
use Rattle.olr_metric.specs.Segment.{foot, spot_between}

-- the segment of a number, counted from 0, runs from a to b
pub record IsSegment (spots : List Spot) (i : ℕ) (a b : Spot) : Type 0 where
  pub start : slice_get spots i ≡ Some a
  pub end : slice_get spots (suc i) ≡ Some b

-- the shape of a road: 2 to 66 spots, no two neighbours of which are equal
pub record IsPolyline (spots : List Spot) : Type 0 where
  pub at_least : 2 ≤ length spots
  pub at_most : length spots ≤ 66
  pub in_plane : All IsInPlane spots
  pub apart : (i : ℕ) (a b : Spot) → IsSegment spots i a b → a ≢ b

-- the length of a polyline: the sum of the distances of neighbours
abbrev pub arc : List Spot → ℕ
arc [] = 0
arc (a ∷ []) = 0
arc (a ∷ b ∷ rest) = distance a b + arc (b ∷ rest)

-- the arc of the start of a segment
abbrev pub arc_at : List Spot → ℕ → ℕ
arc_at spots i = arc (take (suc i) spots)

-- segment i, from a to b, is nearest to p, and the first where several are equally near; p's
-- distance to a segment is that to its foot there
pub record IsNearestSegment (spots : List Spot) (p : Spot) (i : ℕ) (a b : Spot) : Type 0 where
  pub segment : IsSegment spots i a b
  pub least : (j : ℕ) (c d : Spot) → IsSegment spots j c d
      → distance p (foot p a b) ≤ distance p (foot p c d)
  pub first : (j : ℕ) (c d : Spot) → j < i → IsSegment spots j c d
      → distance p (foot p a b) < distance p (foot p c d)

-- Where a polyline is nearest to p: at the foot of p on that segment. Its arc is that of the
-- segment's start and the distance from there to the foot; the latter, which is of rounded
-- coordinates, counts for no more than the whole segment.
pub record IsNearest (spots : List Spot) (p : Spot) (near : Near) : Type 0 where
  pub i : ℕ
  pub a : Spot
  pub b : Spot
  pub nearest : IsNearestSegment spots p i a b
  pub foot_of : near.spot ≡ foot p a b
  pub distance_of : near.distance ≡ distance p near.spot
  pub arc_of : near.arc ≡ arc_at spots i + min (distance a near.spot) (distance a b)

-- segment i, from a to b, is the first whose end has an arc of at least s
pub record IsSegmentAt (spots : List Spot) (s i : ℕ) (a b : Spot) : Type 0 where
  pub segment : IsSegment spots i a b
  pub reaches : s ≤ arc_at spots (suc i)
  pub first : (j : ℕ) → j < i → arc_at spots (suc j) < s

-- the spot at arc s, on that segment
pub record IsAlong (spots : List Spot) (s : ℕ) (spot : Spot) : Type 0 where
  pub i : ℕ
  pub a : Spot
  pub b : Spot
  pub at_arc : IsSegmentAt spots s i a b
  pub spot_of : spot ≡ spot_between a b (s - arc_at spots i) (distance a b)
