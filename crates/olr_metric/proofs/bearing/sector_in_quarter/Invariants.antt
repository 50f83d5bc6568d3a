use Rattle.olr_metric.proofs.Common.{◌-◌, ◌<◌, ℕ, pos, ◌≤ℤ◌, cross, ray, ray_to}
use Rattle.olr_metric.proofs.bearing.sector_in_quarter.Given as goal

-- the ray that begins the sector is passed
pub record HasBegun (sector east north : ℕ) : Type 0 where
  pub in_range : sector < 8
  pub begins : cross (ray sector) (ray_to east north) ≤ℤ pos 0

abbrev pub invariant-loop-sector : goal.invariant-loop-sector
invariant-loop-sector l = HasBegun l.sector l.east l.north

abbrev pub decreases-loop-sector : goal.decreases-loop-sector
decreases-loop-sector l = 7 - l.sector
