-- What a search for least lengths knows before it ends. A table gives, for each line to whose start
-- a walk was found, the length of that walk in decimetres.
use Rattle.std.specs.Prelude.{◌≡◌, ℕ, zero, suc, ◌+◌, ◌-◌, ◌≤◌, ⊤, List, Option, None, Some, Contains, MatchOption, unwrap_or}
use Rattle.olr_road.specs.RoadMap.{RoadMap}
use Rattle.olr_road.specs.declared.place.Place.{Place}
use Rattle.olr_route.specs.Turn.{IsTurn, IsOpen}
use Rattle.olr_route.specs.Walk.{length_at, walk_length, start_of, LeadTo}

-- the length from a place to the end of its line
abbrev pub rest_of_line : RoadMap → Place → ℕ
rest_of_line road place = length_at road place.line - place.at

-- Under a class limit the start of a line is reached from a place after this length: over the rest
-- of the place's line and then `n` whole lines, each of which the class limit lets through.
abbrev pub ReachesStart : RoadMap → ℕ → Place → ℕ → ℕ → ℕ → Type 0
ReachesStart road class from zero line length = IsOpen road class from.line
    × IsTurn road from.line line × (length ≡ rest_of_line road from)
ReachesStart road class from (suc n) line length =
    (before : ℕ) × (so_far : ℕ) × ReachesStart road class from n before so_far
    × IsOpen road class before × IsTurn road before line
    × (length ≡ so_far + length_at road before)

-- a length of at most this one is known
abbrev pub IsKnownWithin : Option ℕ → ℕ → Type 0
IsKnownWithin known length = MatchOption known ⊥ (λ old. old ≤ length)

-- each length of a table is within a limit
abbrev pub AreWithin : (ℕ → Option ℕ) → ℕ → Type 0
AreWithin table limit = (line length : ℕ) → table line ≡ Some length → length ≤ limit

-- a search is asked for the lengths to the starts of these lines, or of all
abbrev pub IsAskedFor : Option (List ℕ) → ℕ → Type 0
IsAskedFor None line = ⊤
IsAskedFor (Some lines) line = Contains lines line

-- A length to the start of a line is useful to a search: from there lines lead on to the start of a
-- line that it is asked for, and the whole length is within the limit.
pub record IsUseful (road : RoadMap) (class : ℕ) (asked : Option (List ℕ))
    (limit line length : ℕ) : Type 0 where
  pub target : ℕ
  pub is_asked : IsAskedFor asked target
  pub rest : List ℕ
  pub on : LeadTo road class (start_of line) (start_of target) rest
  pub within : length + walk_length road (start_of line) (start_of target) rest ≤ limit

-- Each length of the table is within the limit and reaches the start of its line, and the lines
-- that may follow the place's own are in the table where the length to them is useful.
pub record IsSearch (road : RoadMap) (class : ℕ) (from : Place) (asked : Option (List ℕ))
    (limit : ℕ) (table : ℕ → Option ℕ) : Type 0 where
  pub sound : (line length : ℕ) → table line ≡ Some length → (length ≤ limit)
      × ((n : ℕ) × ReachesStart road class from n line length)
  pub first : (line : ℕ) → IsOpen road class from.line → IsTurn road from.line line
      → IsUseful road class asked limit line (rest_of_line road from)
      → IsKnownWithin (table line) (rest_of_line road from)

-- A line is relaxed: no useful length over the line to the start of one that may follow it is less
-- than the known one.
abbrev pub IsRelaxed : RoadMap → ℕ → Option (List ℕ) → ℕ → (ℕ → Option ℕ) → ℕ → Type 0
IsRelaxed road class asked limit table line = (length next : ℕ) → table line ≡ Some length
    → IsOpen road class line → IsTurn road line next
    → IsUseful road class asked limit next (length + length_at road line)
    → IsKnownWithin (table next) (length + length_at road line)

-- the sum of the lengths of the first `count` lines, where an unknown one counts as one more than
-- the limit
abbrev pub total : ℕ → ℕ → (ℕ → Option ℕ) → ℕ
total limit zero table = 0
total limit (suc count) table = total limit count table + unwrap_or (table count) (limit + 1)
