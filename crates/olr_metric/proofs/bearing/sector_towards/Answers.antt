use Rattle.olr_metric.proofs.Common.{arith, false, ℤ, pos, ◌≡◌, ◌<ℤ◌, ◌≤ℤ◌, to_z, of_z, w64, SFits, int_lt, int_le, ints, to_z-of_z}
use Rattle.olr_metric.proofs.BearingSectors.{from_east, from_south, from_west}
use Rattle.olr_metric.proofs.bearing.sector_towards.Goals.{else-east-ge0-via-then-east-ge0+else-north-gt0, else-east-ge0-via-else-east-ge0}
use Rattle.olr_metric.proofs.bearing.sector_towards.Goals as goal

not_north : {north : ℤ} → SFits w64 north → int_lt (pos 0) (to_z w64 (of_z w64 north)) ≡ false
    → north ≤ℤ pos 0
not_north fits not = grind (arith, ints)

not_both : {east : ℤ} → SFits w64 east → int_le (pos 0) (to_z w64 (of_z w64 east)) ≡ false
    → pos 0 <ℤ east → ⊥
not_both fits not some = grind (arith, ints)

pub returns-then-east-gt0 : goal.returns-then-east-gt0
returns-then-east-gt0 c =
    let some : pos 0 <ℤ c.args.east = grind (arith, ints) in
    let none : c.args.north ≤ℤ pos 0 = elim c.else-east-ge0.branch [
      | else-east-ge0-via-then-east-ge0+else-north-gt0 w
          ↦ not_north c.ranges.north w.if-north-gt0.false
      | else-east-ge0-via-else-east-ge0 w ↦ absurd (not_both c.ranges.east w.if-east-ge0.false some)
    ] in
    let is = c.sector_in_quarter-then-east-gt0.ensures in
    from_east some none (rw (to_z-of_z w64 c.args.east c.ranges.east) at
    c.unsigned_abs-along_x.ensures.value)
    (rw (to_z-of_z w64 c.args.north c.ranges.north) at c.unsigned_abs-along_y.ensures.value)
    is.quarter is.sector

pub returns-then-north-lt0 : goal.returns-then-north-lt0
returns-then-north-lt0 c =
    let is = c.sector_in_quarter-then-north-lt0.ensures in
    from_south (grind (arith, ints)) (grind (arith, ints))
    (rw (to_z-of_z w64 c.args.east c.ranges.east) at c.unsigned_abs-along_x.ensures.value)
    (rw (to_z-of_z w64 c.args.north c.ranges.north) at c.unsigned_abs-along_y.ensures.value)
    is.quarter is.sector

pub returns-then-east-lt0 : goal.returns-then-east-lt0
returns-then-east-lt0 c =
    let is = c.sector_in_quarter-then-east-lt0.ensures in
    from_west (grind (arith, ints)) (grind (arith, ints))
    (rw (to_z-of_z w64 c.args.east c.ranges.east) at c.unsigned_abs-along_x.ensures.value)
    (rw (to_z-of_z w64 c.args.north c.ranges.north) at c.unsigned_abs-along_y.ensures.value)
    is.quarter is.sector
