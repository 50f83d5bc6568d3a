-- The walks that a search going backwards has found: for each line the first one so far from its
-- start. Lengths are in decimetres.
use Rattle.std.specs.Prelude.{◌≡◌, ◌≢◌, ℕ, ◌+◌, ◌-◌, ◌⊎◌, List, [], ◌∷◌, Option, Some, Contains, nat_eq}
use Rattle.std.specs.BinaryHeap.{heap_items}
use Rattle.std.specs.HashMap.{get}
use Rattle.olr_route.specs.Turn.{IsTurn}
use Rattle.olr_route.specs.Walk.{length_at, start_of}
use Rattle.olr_legs.specs.Search.{LeadsOn, MayEnd, MayPrecede}
use Rattle.olr_legs.specs.Way.{IsUpToWay}
use Rattle.olr_legs.specs.declared.labels.Labels.{Labels}
use Rattle.olr_legs.specs.declared.search.Search.{Search}
use Rattle.olr_legs.specs.declared.way.Way.{Way}

-- the walk from the start of each line
abbrev pub way_in : Labels → ℕ → Option Way
way_in labels line = get nat_eq labels.ways line

-- the line waits to be gone back from, with a walk of this length
abbrev pub Waits : Labels → ℕ → ℕ → Type 0
Waits labels line length = Contains (heap_items labels.waiting) (record { 0 = (length, line) })

-- a walk is known from the start of the line that isn't behind this one
abbrev pub HasUpTo : Labels → ℕ → ℕ → List ℕ → Type 0
HasUpTo labels line length behind = (way : Way) × (way_in labels line ≡ Some way)
    × IsUpToWay way.length way.behind.items length behind

-- each walk leads on from the start of its line to where the walks end
abbrev pub AreSound : Search → Labels → Type 0
AreSound search labels = (line : ℕ) (way : Way) → way_in labels line ≡ Some way
    → LeadsOn search (start_of line) way.length way.behind.items

-- where the search may go over a line to a walk of this length over these lines behind it, a walk is
-- known from the line's start that isn't behind the whole
abbrev pub IsKnownFrom : Search → Labels → ℕ → ℕ → List ℕ → Type 0
IsKnownFrom search labels line length behind = MayPrecede search line (search.bound - length)
    → HasUpTo labels line (length_at search.map.now line + length) behind

-- A line was gone back from with a walk: this holds for each line before it.
abbrev pub IsClosed : Search → Labels → ℕ → Way → Type 0
IsClosed search labels line way = (before : ℕ) → IsTurn search.map.now before line
    → IsKnownFrom search labels before way.length (line ∷ way.behind.items)

-- a line with a walk waits or was gone back from with it
abbrev pub IsSettled : Search → Labels → ℕ → Way → Type 0
IsSettled search labels line way = Waits labels line way.length ⊎ IsClosed search labels line way

-- each line with a walk is settled
abbrev pub AreSettled : Search → Labels → Type 0
AreSettled search labels = (line : ℕ) (way : Way) → way_in labels line ≡ Some way
    → IsSettled search labels line way

-- each line with a walk is settled, but for some
abbrev pub AreSettledBut : Search → Labels → (ℕ → Way → Type 0) → Type 0
AreSettledBut search labels IsBut = (line : ℕ) (way : Way) → way_in labels line ≡ Some way
    → IsSettled search labels line way ⊎ IsBut line way

-- the line, with a walk of this length
abbrev pub IsAt : ℕ → ℕ → ℕ → Way → Type 0
IsAt line length other way = (other ≡ line) × (way.length ≡ length)

-- the line, with a walk of this length over these lines, its own first
abbrev pub IsOver : ℕ → ℕ → List ℕ → ℕ → Way → Type 0
IsOver line length behind other way = IsAt line length other way
    × (other ∷ way.behind.items ≡ behind)

-- the walk from the start of the last line is known, where the search may end by it
abbrev pub HasEnd : Search → Labels → Type 0
HasEnd search labels = MayEnd search → HasUpTo labels search.to.line search.to.at []

-- what a search has found is still known
abbrev pub AreKept : Labels → Labels → Type 0
AreKept old new = (line length : ℕ) (behind : List ℕ) → HasUpTo old line length behind
    → HasUpTo new line length behind

-- A walk over these lines was offered to a line: the line has it now, and waits, or keeps one that
-- isn't behind it. The others keep theirs, and what waits still does.
pub record IsOffered (line length : ℕ) (behind : List ℕ) (old new : Labels) : Type 0 where
  pub known : HasUpTo new line length behind
  pub here : (way_in new line ≡ way_in old line) ⊎ ((way : Way) × (way_in new line ≡ Some way)
      × (way.length ≡ length) × (way.behind.items ≡ behind) × Waits new line length)
  pub others : (other : ℕ) → other ≢ line → way_in new other ≡ way_in old other
  pub kept : AreKept old new
  pub waits : (other long : ℕ) → Waits old other long → Waits new other long
