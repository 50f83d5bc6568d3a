use Rattle.std.proofs.Common.{◌≡◌, take, string_bytes}
use Rattle.olr_app.proofs.PagesOf.{AddsPages}
use Rattle.olr_app.proofs.matching.added_for_pages.Given as goal

-- the routes are of the same map and layers, and the output is what the pages so far add
abbrev pub invariant-loop-page : goal.invariant-loop-page
invariant-loop-page l = (l.routes ≡ l.initial.routes)
    × AddsPages l.asked.extras l.asked.format l.initial.routes.road l.initial.routes.layers l.mark
    (take l.page-index l.pages) (string_bytes l.output)
