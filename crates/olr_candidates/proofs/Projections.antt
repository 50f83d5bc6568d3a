-- A spot has one projection onto a polyline at most.
use Rattle.olr_candidates.proofs.Common.{arith, ◌<◌, IfSome, Spot, Near, arc, IsNearest, Projection, IsProjection, ◌≡◌, ℕ, Bool, List, Option, Some, None, refl, MatchOption, IsAlong, bearing_arc, HasBearing}
use Rattle.olr_metric.specs.Sector.{Direction, zero_direction, IsSector}

-- the plane's laws
abbrev pub OneNearest : Type 0
OneNearest = (spots : List Spot) (p : Spot) (a b : Near) → IsNearest spots p a → IsNearest spots p b
    → a ≡ b

abbrev pub OneAlong : Type 0
OneAlong = (spots : List Spot) (s : ℕ) (a b : Spot) → IsAlong spots s a → IsAlong spots s b → a ≡ b

abbrev pub OneSector : Type 0
OneSector = (d : Direction) (s t : ℕ) → IsSector d s → IsSector d t → s ≡ t

abbrev pub NoSector : Type 0
NoSector = (s : ℕ) → IsSector zero_direction s → ⊥

same_sector : OneSector → NoSector → (a b : Option ℕ) (d : Direction)
    → MatchOption a (d ≡ zero_direction) (IsSector d)
    → MatchOption b (d ≡ zero_direction) (IsSector d) → a ≡ b
same_sector one none None None d is_a is_b = refl
same_sector one none None (Some t) d is_a is_b = absurd (none t (rw (← is_a) is_b))
same_sector one none (Some s) None d is_a is_b = absurd (none s (rw (← is_b) is_a))
same_sector one none (Some s) (Some t) d is_a is_b = cc (one d s t is_a is_b)

same_bearing : OneAlong → OneSector → NoSector
    → (polyline : List Spot) (is_last : Bool) (near : Near) (a b : Option ℕ)
    → HasBearing polyline is_last near a → HasBearing polyline is_last near b → a ≡ b
same_bearing alongs one none polyline is_last near a b has other =
    same_sector one none a b _ has.sector_of
    (rw (← (alongs polyline (bearing_arc is_last near.arc (arc polyline)) other.ahead has.ahead
    other.along has.along)) other.sector_of)

same_projection : (a b : Projection) → a.distance ≡ b.distance → a.at ≡ b.at → a.sector ≡ b.sector
    → a ≡ b
same_projection a b distance at sector = grind arith

pub one_projection : OneNearest → OneAlong → OneSector → NoSector
    → (polyline : List Spot) (length : ℕ) (is_last : Bool) (p : Spot) (a b : Projection)
    → IsProjection polyline length is_last p a → IsProjection polyline length is_last p b → a ≡ b
one_projection nearests alongs one none polyline length is_last p a b is_projection other =
    let same : other.near ≡ is_projection.near =
    nearests _ _ _ _ other.nearest is_projection.nearest in
    same_projection a b (cc) (cc)
    (same_bearing alongs one none _ _ _ _ _ is_projection.bearing (rw (← same) other.bearing))

-- a bearing is one of 32 sectors
pub sector_at_most : {polyline : List Spot} {is_last : Bool} {near : Near} (sector : Option ℕ)
    → HasBearing polyline is_last near sector → IfSome sector (λ s. s < 32)
sector_at_most None has = tt
sector_at_most (Some s) has = has.sector_of.in_range
