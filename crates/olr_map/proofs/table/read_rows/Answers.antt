use Rattle.olr_map.proofs.Common.{AddsRow, [], ◌∷◌, List, length, ap, subst, ◌∙◌, arith, length-append}
use Rattle.olr_map.proofs.Gathering.{collects_more}
use Rattle.olr_map.proofs.table.read_rows.Goals as goal

pub loop-table-preserved : goal.loop-table-preserved
loop-table-preserved g c =
    let inv = c.loop-table.invariant in
    let old = g.T.TableFile.rows c.loop-table.table in
    let new = g.T.TableFile.rows c.add.new.self in
    let next = rw c.if-branch.true at c.in_ok-next.ensures.found in
    let added = rw c.in_default.is at c.in_ok-stop.ensures.added in
    let adds = subst (λ (earlier : g.T.TableFile.Earlier). AddsRow (g.T.TableFile.table_of earlier)
    c.next.new.row old new) inv.same added.0 in
    record {
      size = omega (
        arith,
        ap (λ (l : List g.T.TableFile.Row). length l) adds.rows,
        length-append old (adds.row ∷ []),
      );
      at_most = omega arith;
      same = c.in_ok-stop.ensures.same ∙ inv.same;
      collects = collects_more _ _ inv.collects next adds;
      sound = added.1;
    }
