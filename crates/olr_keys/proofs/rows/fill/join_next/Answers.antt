use Rattle.olr_keys.proofs.Common.{◌+◌, sym, ◌∙◌, arith, length-map, IsRemainingTotal, IsRowOf, width_of}
use Rattle.olr_keys.proofs.Marking.{whole_row, next_row, row_more, row_without}
use Rattle.olr_keys.proofs.rows.fill.join_next.Goals as goal
use Rattle.olr_keys.proofs.rows.fill.join_next.Goals.{in-Some, in_default}

pub loop-other-preserved : goal.loop-other-preserved
loop-other-preserved c =
    let p = c.args.table.now in
    let layer = c.args.from.layer in
    let it = next_row _ _ c.requires.next c.loop-other-test.true c.other-item.is in
    let that : IsRowOf (IsRemainingTotal p (layer + 1) (c.loop-other.second + 1)) (width_of p)
    c.other-item.result.items =
    rw c.loop-other.invariant.0 it in (
      omega arith,
      elim c.match-leg_to.branch [
        | in-Some w ↦ row_more _ _ _ _ _ _ _ _ c.requires.penalty (sym c.leg_to.ensures
            ∙ w.in-Some.is) (omega arith) w.deref.ensures.value w.row-is c.loop-other.invariant.1
            that w.or_shifted.ensures
        | in_default w ↦ rw w.row-is (row_without _ _ _ _ _ (cc) c.loop-other.invariant.1)
      ],
    )

pub returns : goal.returns
returns c = whole_row _ _ c.requires.layer c.requires.penalty (omega (
  arith,
  length-map c.args.next.now (λ row. row.items),
)) c.loop-other.invariant.1
