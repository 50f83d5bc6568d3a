use Rattle.olr_keys.proofs.Common.{arith, length-map}
use Rattle.olr_keys.proofs.Marking.{next_row, total_row_more, whole_totals}
use Rattle.olr_keys.proofs.rows.fill.join_all.Goals as goal

pub or_shifted-requires : goal.or_shifted-requires
or_shifted-requires c = grind (arith, next_row, length-map)

pub loop-index-preserved : goal.loop-index-preserved
loop-index-preserved c =
    let it = next_row 0 _ c.requires.first (omega (
      arith,
      length-map c.args.first.now (λ row. row.items),
    )) c.index-first-index.is in
    total_row_more _ _ c.deref.ensures.value c.loop-index.invariant it c.or_shifted.ensures

pub returns : goal.returns
returns c = whole_totals c.requires.sound (omega arith) c.loop-index.invariant
