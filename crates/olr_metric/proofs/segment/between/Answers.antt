use Rattle.std.proofs.Common.{rules, arith, ◌≡◌, ◌-ℤ◌}
use Rattle.olr_metric.proofs.Betweens.{between_is, between_near}
use Rattle.olr_metric.proofs.Floors.{small_is, small_fits}
use Rattle.olr_metric.proofs.segment.between.Goals as goal

pub overflow_add-result : goal.overflow_add-result
overflow_add-result c =
    let is_displacement : c.displacement.result ≡ c.args.b -ℤ c.args.a = search rules in
    let is = between_is c.args.a c.args.b _ _ _ _ is_displacement c.share.ensures c.requires.a
    c.displacement.ensures.at_most c.requires.part c.requires.positive in
    let near = between_near c.args.a c.args.b _ _ _ c.requires.a c.requires.b c.requires.part
    c.requires.positive in
    rw is (small_fits (omega arith))

pub returns-clause-between : goal.returns-clause-between
returns-clause-between c =
    let is_displacement : c.displacement.result ≡ c.args.b -ℤ c.args.a = search rules in
    let is = between_is c.args.a c.args.b _ _ _ _ is_displacement c.share.ensures c.requires.a
    c.displacement.ensures.at_most c.requires.part c.requires.positive in
    let near = between_near c.args.a c.args.b _ _ _ c.requires.a c.requires.b c.requires.part
    c.requires.positive in
    rw is (small_is _ (omega arith))

pub returns-clause-at_most : goal.returns-clause-at_most
returns-clause-at_most c =
    rw (returns-clause-between c) (between_near c.args.a c.args.b _ _ _ c.requires.a c.requires.b
    c.requires.part c.requires.positive)
