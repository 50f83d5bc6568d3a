use Rattle.olr_metric.proofs.Common.{◌≡◌, ◌≤◌, ◌^◌, arith, ℤ, ◌-ℤ◌, to_z, of_z, w64, nat_abs, ints}
use Rattle.olr_metric.proofs.bearing.sector.Goals as goal

way_is : (to from : ℤ) → nat_abs to ≤ 2 ^ 33 → nat_abs from ≤ 2 ^ 33
    → to_z w64 (of_z w64 (to_z w64 (of_z w64 to) -ℤ to_z w64 (of_z w64 from))) ≡ to -ℤ from
way_is to from near_to near_from = omega (arith, ints)

pub returns : goal.returns
returns c =
    let from = c.requires.from in
    let to = c.requires.to in
    rw (way_is _ _ to.x from.x, way_is _ _ to.y from.y) at c.sector_towards.ensures
