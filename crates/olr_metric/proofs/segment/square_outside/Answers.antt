use Rattle.olr_metric.proofs.Common.{◌≡◌, ℤ, ◌≤◌, ◌^◌, arith, to_z, of_z, w64, nat_abs}
use Rattle.olr_metric.proofs.Floors.{small_is}
use Rattle.olr_metric.proofs.Rectangles.{foot_outside}
use Rattle.olr_metric.proofs.segment.square_outside.Goals as goal

near : (x : ℤ) → nat_abs x ≤ 2 ^ 33 → to_z w64 (of_z w64 x) ≡ x
near x at_most = small_is x (omega arith)

pub returns : goal.returns
returns c =
    let least_x = simp (
      near c.args.p.x c.requires.p.x,
      near c.args.a.x c.requires.a.x,
      near c.args.b.x c.requires.b.x,
    ) at c.outside.ensures.least in
    let least_y = simp (
      near c.args.p.y c.requires.p.y,
      near c.args.a.y c.requires.a.y,
      near c.args.b.y c.requires.b.y,
    ) at c.outside-2.ensures.least in
    rw c.sum_of_squares.ensures.sum
    (foot_outside c.args.p c.args.a c.args.b c.outside.result c.outside-2.result least_x least_y)
