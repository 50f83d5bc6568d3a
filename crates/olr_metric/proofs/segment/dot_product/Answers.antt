use Rattle.std.proofs.Common.{rules, ◌≡◌, ◌∙◌, ◌-ℤ◌, ◌*ℤ◌, refl}
use Rattle.olr_metric.proofs.Sums.{sum_fits, sum_is}
use Rattle.olr_metric.proofs.segment.dot_product.Goals as goal

pub overflow_add-result : goal.overflow_add-result
overflow_add-result c = sum_fits c.axis_product.result c.axis_product-2.result
    c.axis_product.ensures.at_most c.axis_product-2.ensures.at_most

pub returns-clause-product : goal.returns-clause-product
returns-clause-product c =
    let x_is : c.axis_product.result ≡ (c.args.p.x -ℤ c.args.a.x) *ℤ (c.args.b.x -ℤ c.args.a.x) =
    search rules in
    let y_is : c.axis_product-2.result ≡ (c.args.p.y -ℤ c.args.a.y) *ℤ (c.args.b.y -ℤ c.args.a.y) =
    search rules in
    sum_is c.axis_product.result c.axis_product-2.result c.axis_product.ensures.at_most
    c.axis_product-2.ensures.at_most ∙ rw (x_is, y_is) refl
