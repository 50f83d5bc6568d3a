use Rattle.std.proofs.Common.{◌≡◌, ◌-◌, ◌≤◌, length}
use Rattle.olr_map.proofs.Gathering.{Collects}
use Rattle.olr_map.proofs.table.read_rows.Given as goal

abbrev pub invariant-loop-table : goal.invariant-loop-table
invariant-loop-table g l = record {
  size : length (g.T.TableFile.rows l.table) ≡ l.count;
  at_most : l.count ≤ l.limit;
  same : g.T.TableFile.before l.table ≡ g.T.TableFile.before l.fn.table;
  collects : Collects (g.T.TableFile.table_of (g.T.TableFile.before l.fn.table)) l.fn.records
      l.records (g.T.TableFile.rows l.table);
  sound : g.T.TableFile.IsSound l.table;
}

abbrev pub decreases-loop-table : goal.decreases-loop-table
decreases-loop-table g l = l.limit - l.count
