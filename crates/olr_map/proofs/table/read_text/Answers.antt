use Rattle.olr_map.proofs.Common.{Settles, keys_of, refl, subst, err_from_is_err_and}
use Rattle.olr_map.proofs.Settled.{text_rows, text_fault}
use Rattle.olr_map.proofs.table.read_text.Goals as goal

pub returns-in_err-settle-clause-fault : goal.returns-in_err-settle-clause-fault
returns-in_err-settle-clause-fault g c =
    let p = err_from_is_err_and c.from_residual-in_err-settle.result
    c.from_residual-in_err-settle.ensures.1 in
    let table = g.T.TableFile.table_of (g.T.TableFile.before c.args.table.now) in
    let rows = g.T.TableFile.rows c.read_rows.new.table in
    let why = c.in_err-settle.field-0.0 in
    let header = rw c.if-not-branch.false at c.in_ok-pass_header.ensures in
    let settles = subst (λ (earlier : g.T.TableFile.Earlier). Settles
    (keys_of (g.T.TableFile.table_of earlier) rows) c.in_ok-stop.stop
    (g.T.TableFile.table_of earlier).file why)
    c.in_ok-stop.ensures.same c.in_err-settle.ensures.fault in
    rw (p.1, p.2) (text_fault _ c.requires.settled _ _ _ _ _ _ (cc) refl
    c.in_ok-stop.ensures.rows settles)

pub returns-clause-rows : goal.returns-clause-rows
returns-clause-rows g c =
    let table = g.T.TableFile.table_of (g.T.TableFile.before c.args.table.now) in
    let rows = g.T.TableFile.rows c.read_rows.new.table in
    let sorted = g.T.TableFile.rows c.settle.new.table in
    let header = rw c.if-not-branch.false at c.in_ok-pass_header.ensures in
    let say = rw c.in_ok-settle.ensures.sorted.0 at c.in_ok-stop.ensures.rows in
    text_rows (cc) say (rw (← c.in_ok-stop.ensures.same) c.in_ok-settle.ensures.sorted.1)
