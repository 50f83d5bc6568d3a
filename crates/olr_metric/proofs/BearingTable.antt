-- The table of the rays of the first quarter.
use Rattle.olr_metric.proofs.Common.{◌≡◌, ℕ, ◌*◌, ◌<◌, ◌≤◌, arith, pos, ◌≤ℤ◌, leb, get_or, Decides, ints, leb-true, cross, zero_direction, ray, ray_to, first_rays}
use Rattle.std.proofs.lemmas.Bool.Decides.{Decides-like, nat_tests}
use Rattle.std.proofs.Math.ListN.{get_or-map}
use Rattle.olr_metric.specs.declared.bearing.TheConstants.{RAYS}

from_table : (s : ℕ) → get_or first_rays s zero_direction
    ≡ ray_to (get_or RAYS s (0, 0)).0 (get_or RAYS s (0, 0)).1
from_table s = get_or-map (λ r. ray_to r.0 r.1) RAYS s (0, 0)

ray_from_table : (s : ℕ) → s < 8 → ray s ≡ ray_to (get_or RAYS s (0, 0)).0 (get_or RAYS s (0, 0)).1
unfolding ray
ray_from_table s inside = grind (arith, from_table)

le_decides : (m n : ℕ) → Decides (leb m n) (m ≤ n)
le_decides m n = (λ t. leb-true m n t, λ le. grind (arith, nat_tests))

passed_of : (x y a b : ℕ) → Decides (leb (x * b) (y * a)) (cross (ray_to x y) (ray_to a b) ≤ℤ pos 0)
passed_of x y a b = grind (arith, Decides-like, ints, le_decides)

-- whether a direction has passed a ray, by the table
pub passed : (s a b : ℕ) → s < 8
    → Decides (leb ((get_or RAYS s (0, 0)).0 * b) ((get_or RAYS s (0, 0)).1 * a))
    (cross (ray s) (ray_to a b) ≤ℤ pos 0)
passed s a b inside = grind (arith, ray_from_table, passed_of)
