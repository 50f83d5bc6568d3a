-- Whether a route turns back: drives to the end of a line, and from there straight back along the
-- line of the other direction. (This is this project's choice.)
use Rattle.std.specs.Prelude.{◌≡◌, ◌≢◌, ℕ, ◌+◌, ◌-◌, ℤ, pos, ◌+ℤ◌, ◌-ℤ◌, ◌*ℤ◌, ◌<ℤ◌, nat_abs, List, length, Some, slice_get}
use Rattle.olr_base.specs.Coordinates.{Coordinates}
use Rattle.olr_metric.specs.Plane.{spot_of}
use Rattle.olr_metric.specs.declared.spot.Spot.{Spot}
use Rattle.olr_road.specs.RoadMap.{RoadLine}
use Rattle.olr_route.specs.declared.piece.Piece.{Piece}

-- the dot product of the directions from the plane's origin to two spots
abbrev pub dot_of : Spot → Spot → ℤ
dot_of a b = a.x *ℤ b.x +ℤ a.y *ℤ b.y

-- and the cross product
abbrev pub cross_of : Spot → Spot → ℤ
cross_of a b = a.x *ℤ b.y -ℤ a.y *ℤ b.x

-- the angle between the directions to two spots is less than 45 degrees
abbrev pub IsSharp : Spot → Spot → Type 0
IsSharp a b = pos (nat_abs (cross_of a b)) <ℤ dot_of a b

-- Two lines meet in a sharp angle: between the last segment of the first one, gone backwards, and
-- the first segment of the second one, in the plane that has its origin at the end of the first.
pub record MeetSharply (points others : List Coordinates) : Type 0 where
  pub before : Coordinates
  pub node : Coordinates
  pub after : Coordinates
  pub before_is : slice_get points (length points - 2) ≡ Some before
  pub node_is : slice_get points (length points - 1) ≡ Some node
  pub after_is : slice_get others 1 ≡ Some after
  pub sharp : IsSharp (spot_of node before) (spot_of node after)

-- A route turns back from a piece to the next one: the first one ends at the end of its line, the
-- second begins at the start of another line, which leads back from the one node to the other, and
-- the two meet in a sharp angle.
pub record TurnsBackAt (lines : List RoadLine) (piece next : Piece) : Type 0 where
  pub line : RoadLine
  pub other : RoadLine
  pub line_is : slice_get lines piece.line ≡ Some line
  pub other_is : slice_get lines next.line ≡ Some other
  pub ends : piece.to ≡ line.length
  pub begins : next.from ≡ 0
  pub differ : next.line ≢ piece.line
  pub leaves : other.from ≡ line.to
  pub returns : other.to ≡ line.from
  pub sharp : MeetSharply line.points other.points

-- it does so at some piece
pub record TurnsBack (lines : List RoadLine) (route : List Piece) : Type 0 where
  pub index : ℕ
  pub piece : Piece
  pub next : Piece
  pub piece_is : slice_get route index ≡ Some piece
  pub next_is : slice_get route (index + 1) ≡ Some next
  pub turns : TurnsBackAt lines piece next
