-- The order of walks.
use Rattle.std.specs.Prelude.{◌≡◌, ℕ, ◌<◌, ◌⊎◌, List}
use Rattle.olr_route.specs.Route.{IsUpTo}

-- A walk of one length and over some lines comes before another one or is it: it is shorter, or as
-- long and not behind it by the ranks of their lines.
abbrev pub IsUpToWay : ℕ → List ℕ → ℕ → List ℕ → Type 0
IsUpToWay length behind other_length other_behind = (length < other_length)
    ⊎ ((length ≡ other_length) × IsUpTo behind other_behind)
