-- Bellman and Ford's search: lengths are offered to lines, and each line keeps the least one.
use Rattle.std.specs.Prelude.{◌≡◌, ℕ, ◌+◌, ◌≤◌, Bool, false, cond, length, Some}
use Rattle.olr_road.specs.declared.place.Place.{Place}
use Rattle.olr_route.specs.declared.search.Search.{Search}
use Rattle.olr_route.specs.declared.starts.Starts.{Starts}
use Rattle.olr_route.specs.Starts.{table_in}
use Rattle.olr_route.specs.Steps.{IsKnownWithin, ReachesStart, rest_of_line, total}
use Rattle.olr_route.specs.Turn.{IsOpen, IsTurn}

-- the start of a line is reached after this length
abbrev pub Reaches : Search → ℕ → ℕ → Type 0
Reaches search line length = (n : ℕ)
    × ReachesStart search.map.now search.class search.from n line length

-- If the class limit lets the line of a place through, the start of each line that may follow is
-- reached after the length to the place and the rest of its line.
abbrev pub IsReached : Search → Place → ℕ → Type 0
IsReached search place so_far = (next : ℕ) → IsOpen search.map.now search.class place.line
    → IsTurn search.map.now place.line next
    → Reaches search next (so_far + rest_of_line search.map.now place)

-- each length is within the limit, and the start of its line is reached after it
abbrev pub AreSound : Search → Starts → Type 0
AreSound search starts = (line length : ℕ) → table_in search.map.now starts line ≡ Some length
    → (length ≤ search.limit) × Reaches search line length

-- A place is relaxed: the length to the end of its line was offered to each line that may follow,
-- if the class limit lets the place's line through and the length is within the limit.
abbrev pub IsOffered : Search → Place → ℕ → Starts → Type 0
IsOffered search place so_far starts = (next : ℕ) → IsOpen search.map.now search.class place.line
    → IsTurn search.map.now place.line next
    → so_far + rest_of_line search.map.now place ≤ search.limit
    → IsKnownWithin (table_in search.map.now starts next)
    (so_far + rest_of_line search.map.now place)

-- the sum of all lengths
abbrev pub sum_of : Search → Starts → ℕ
sum_of search starts = total search.limit (length search.map.now.lines)
    (table_in search.map.now starts)

-- Lengths were offered: all are sound, and none has become longer. Where one was kept, the sum of
-- all has become less, else none has changed.
pub record IsLowered (search : Search) (kept : Bool) (old new : Starts) : Type 0 where
  pub sound : AreSound search new
  pub falls : (line bound : ℕ) → IsKnownWithin (table_in search.map.now old line) bound
      → IsKnownWithin (table_in search.map.now new line) bound
  pub less : cond kept 1 0 + sum_of search new ≤ sum_of search old
  pub same : kept ≡ false → (line : ℕ)
      → table_in search.map.now new line ≡ table_in search.map.now old line
