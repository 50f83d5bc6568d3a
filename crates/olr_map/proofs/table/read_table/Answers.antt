use Rattle.olr_map.specs.inner.Ending.{not_read}
use Rattle.olr_map.proofs.table.read_table.Goals as goal

pub returns-in-Err-clause-fault : goal.returns-in-Err-clause-fault
returns-in-Err-clause-fault g c =
    let old = g.S.Source.failed c.args.source.now in
    let new = g.S.Source.failed c.read_whole.new.source in
    not_read (rw (← c.file.ensures) (c.read_fault.ensures old new c.in-Err.ensures.fault))
