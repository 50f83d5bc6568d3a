use Rattle.olr_keys.proofs.Common.{◌≡◌, length, option_map}
use Rattle.olr_keys.proofs.PageLists.{AreFirst}
use Rattle.olr_keys.proofs.paging.page_after.Given as goal

abbrev pub invariant-loop-taken : goal.invariant-loop-taken
invariant-loop-taken g l =
    (g.F.Finder.answers l.finder ≡ g.F.Finder.answers l.fn.finder)
    × AreFirst (g.F.Finder.answers l.fn.finder) (option_map (λ key. key.now) l.after)
    l.keys.items × (length l.keys.items ≡ l._taken)
