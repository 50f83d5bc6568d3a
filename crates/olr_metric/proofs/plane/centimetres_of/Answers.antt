use Rattle.olr_metric.proofs.Common.{rules, ◌≡◌, pos, ◌*ℤ◌, to_z, of_z, w64, floor}
use Rattle.olr_metric.proofs.Floors.{floor_product_near}
use Rattle.olr_metric.proofs.plane.centimetres_of.Goals as goal

pub returns-clause-at_most : goal.returns-clause-at_most
returns-clause-at_most c =
    let same : to_z w64 (of_z w64 c.div_euclid.result)
    ≡ floor (c.args.microdegrees *ℤ pos c.args.upper) c.args.lower = search rules in
    rw same (floor_product_near c.args.microdegrees c.args.upper _ _ c.requires.lower_positive
    c.requires.in_plane)
