use Rattle.std.proofs.Common.{◌≡◌, length, sym, ◌∙◌, arith}
use borrow.Author.Tests.{eqb-true}
use Rattle.olr_why.proofs.Ends.{with_all, without_at_first, without_later}
use Rattle.olr_why.proofs.Places.{points_count}
use Rattle.olr_why.proofs.chain.first_without_tuple.Goals as goal

pub returns-then-is_empty : goal.returns-then-is_empty
returns-then-is_empty c = λ road are.
    let none : length c.first_ends-ends.result.items ≡ 0 =
    eqb-true (length c.first_ends-ends.result.items) 0
    (sym c.is_empty.ensures ∙ c.if-is_empty.true) in
    without_at_first are c.first_ends-ends.result.items c.first_ends-ends.ensures none

pub returns-then-is_empty-2 : goal.returns-then-is_empty-2
returns-then-is_empty-2 c = λ road are.
    let none : length c.next_ends-ends.result.items ≡ 0 =
    eqb-true (length c.next_ends-ends.result.items) 0
    (sym c.is_empty-in-loop-layer.ensures ∙ c.if-is_empty-2.true) in
    let count = points_count are c.table.ensures c.layers-layer-end.ensures.count in
    without_later are c.loop-layer.layer c.loop-layer.ends.items c.next_ends-ends.result.items
    c.loop-layer.auto.layer (omega (arith, count)) c.loop-layer.invariant.1 c.loop-layer.invariant.0
    c.next_ends-ends.ensures none

pub returns : goal.returns
returns c = λ road are.
    let count = points_count are c.table.ensures c.layers-layer-end.ensures.count in
    with_all are c.loop-layer.layer c.loop-layer.ends.items c.loop-layer.auto.layer
    (omega (
      arith,
      count,
      c.layers-layer-end.ensures.sound.layers_at_least,
      c.layers-layer-end.ensures.count,
    )) c.loop-layer.invariant.1 c.loop-layer.invariant.0
