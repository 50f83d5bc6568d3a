use Rattle.olr_map.proofs.Common.{repeat}
use Rattle.olr_map.proofs.table.settle.Goals as goal

pub returns-in-Some-clause-fault : goal.returns-in-Some-clause-fault
returns-in-Some-clause-fault g c =
    let table = g.T.TableFile.table_of (g.T.TableFile.before c.args.table.now) in
    rw c.in-Some.is c.in_ok-first_fault.ensures

pub returns-in-Some-2-clause-fault : goal.returns-in-Some-2-clause-fault
returns-in-Some-2-clause-fault g c =
    let table = g.T.TableFile.table_of (g.T.TableFile.before c.args.table.now) in
    rw c.in_default.is (repeat c.in-Some-2.place (rw c.in-Some-2.is at c.in_ok-place.ensures) (cc))
