use Rattle.std.proofs.Common.{◌≡◌, drop}
use Rattle.olr_app.proofs.LegsOf.{first_in}
use Rattle.olr_app.proofs.legs.matching_of.Given as goal

-- the first key of the pages left is that of all
abbrev pub invariant-loop-page : goal.invariant-loop-page
invariant-loop-page l = first_in (drop l.page-index l.pages) ≡ first_in l.pages
