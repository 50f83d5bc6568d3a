use Rattle.olr_report.proofs.Common.{length, map, take, entry_of, AreEntriesOf}
use Rattle.olr_report.proofs.page_entries.entries.Given as goal

-- the entries of the keys so far
abbrev pub invariant-loop-key : goal.invariant-loop-key
invariant-loop-key l = let count = length l.yielded in
    AreEntriesOf l.reference (take count l.page.keys.items) (take count l.fn.matched)
    (map entry_of l.entries.items)
