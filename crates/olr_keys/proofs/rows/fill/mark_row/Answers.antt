use Rattle.std.proofs.Common.{arith}
use Rattle.olr_keys.proofs.Marking.{last_row}
use Rattle.olr_keys.proofs.rows.fill.mark_row.Goals as goal

pub bounds-row-from : goal.bounds-row-from
bounds-row-from c = (last_row _ c.args.layer c.args.rank c.in-Some.penalty _ _ (omega arith) (cc)
    c.from.ensures c.requires.empty).0

pub returns-then-layer-layers : goal.returns-then-layer-layers
returns-then-layer-layers c = (last_row _ c.args.layer c.args.rank c.in-Some.penalty _ _
    (omega arith) (cc) c.from.ensures c.requires.empty).1
