use Rattle.olr_keys.proofs.Common.{◌≡◌, ◌-◌, None, length, map, page_of}
use Rattle.olr_keys.proofs.Chains.{IsChainSoFar}
use Rattle.olr_keys.proofs.chain.all_pages.Given as goal

abbrev pub invariant-pages : goal.invariant-pages
invariant-pages g l =
    (g.F.Finder.answers l.finder ≡ g.F.Finder.answers l.fn.finder)
    × IsChainSoFar (g.F.Finder.answers l.fn.finder) None l.fn.size (map page_of l.pages.items)

abbrev pub decreases-pages : goal.decreases-pages
decreases-pages g l = length (g.F.Finder.answers l.fn.finder) - length (map page_of l.pages.items)
