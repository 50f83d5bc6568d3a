use Rattle.std.proofs.Common.{◌≡◌, map, take}
use Rattle.olr_keys.proofs.table.copy_of.Given as goal

abbrev pub invariant-loop-list : goal.invariant-loop-list
invariant-loop-list g l = map (λ list. list.items) l.copies.items
    ≡ map (λ list. list.items) (take l.list-index l.fn.lists)
