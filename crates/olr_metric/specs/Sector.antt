-- Directions, and the 32 sectors of bearings: clockwise from north, about 11.25 degrees each. The
-- OpenLR white paper has sectors of exactly 11.25 degrees; here they are bounded by rays of whole
-- numbers, close to those angles.
use Rattle.std.specs.Prelude.{ℕ, zero, suc, ℤ, pos, ◌+◌, ◌/◌, ◌%◌, ◌<◌, ◌-ℤ◌, ◌*ℤ◌, ◌≤ℤ◌, ◌<ℤ◌, neg_ℤ, List, [], ◌∷◌, slice_index_or}
use Rattle.olr_metric.specs.declared.spot.Spot.{Spot}

-- a direction, as a displacement east and north
pub record Direction : Type 0 where
  pub east : ℤ
  pub north : ℤ

-- the direction of a displacement east and north
abbrev pub towards : ℤ → ℤ → Direction
towards east north = record { east = east; north = north }

-- the direction from one spot to another
abbrev pub direction : Spot → Spot → Direction
direction from to = towards (to.x -ℤ from.x) (to.y -ℤ from.y)

-- the direction from a spot to itself, which has no sector
abbrev pub zero_direction : Direction
zero_direction = towards (pos 0) (pos 0)

-- The cross product: greater than 0 where d lies anticlockwise of r, less than 0 where it lies
-- clockwise of r, by less than half a turn each.
abbrev pub cross : Direction → Direction → ℤ
cross r d = r.east *ℤ d.north -ℤ r.north *ℤ d.east

-- a quarter turn clockwise
abbrev pub turned : Direction → Direction
turned d = towards d.north (neg_ℤ d.east)

-- a direction between north and east
abbrev pub ray_to : ℕ → ℕ → Direction
ray_to east north = towards (pos east) (pos north)

-- the rays that begin the sectors from north to east, each 11.25 degrees clockwise of the one
-- before, rounded to millionths
abbrev pub first_rays : List Direction
first_rays = ray_to 0 1000000 ∷ ray_to 198912 1000000 ∷ ray_to 414214 1000000
    ∷ ray_to 668179 1000000 ∷ ray_to 1000000 1000000
    ∷ ray_to 1000000 668179 ∷ ray_to 1000000 414214 ∷ ray_to 1000000 198912 ∷ []

-- a number of quarter turns clockwise
abbrev pub turns : ℕ → Direction → Direction
turns zero d = d
turns (suc k) d = turned (turns k d)

-- The ray that begins a sector. After the first eight each one is a quarter turn clockwise of the
-- one eight before, so that ray 32, which ends the last sector, is ray 0 again.
unfoldable pub ray : ℕ → Direction
ray s = turns (s / 8) (slice_index_or first_rays (s % 8) zero_direction)

-- a direction lies in a sector: not anticlockwise of the ray that begins it, and anticlockwise of
-- the ray that begins the next
pub record IsSector (d : Direction) (s : ℕ) : Type 0 where
  pub in_range : s < 32
  pub begins : cross (ray s) d ≤ℤ pos 0
  pub ends : pos 0 <ℤ cross (ray (s + 1)) d
