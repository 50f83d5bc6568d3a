-- The walks from the place where they begin, over the rest of its line and then by the walks that a
-- search has found. Lengths are in decimetres.
use Rattle.std.specs.Prelude.{◌≡◌, ◌≢◌, ℕ, ◌+◌, ◌≤◌, List, [], ◌∷◌, Option, Some, IfSome}
use Rattle.olr_route.specs.Steps.{rest_of_line}
use Rattle.olr_route.specs.Turn.{IsOpen, IsTurn}
use Rattle.olr_legs.specs.Avoiding.{IsClearOf}
use Rattle.olr_legs.specs.Labels.{way_in}
use Rattle.olr_legs.specs.Search.{LeadsOn, from_of, piece_to_end}
use Rattle.olr_legs.specs.Way.{IsUpToWay}
use Rattle.olr_legs.specs.declared.labels.Labels.{Labels}
use Rattle.olr_legs.specs.declared.search.Search.{Search}
use Rattle.olr_legs.specs.declared.way.Way.{Way}

-- the walks may begin by the rest of their first line: the class limit lets it through, and it is
-- clear of the pieces that are shut
pub record MayDepart (search : Search) : Type 0 where
  pub opened : IsOpen search.map.now search.reach.now.class (from_of search).line
  pub clear : IsClearOf search.shut.now
      (piece_to_end search.map.now (from_of search).line (from_of search).at)

-- the walk isn't behind one of this length over these lines
abbrev pub IsBestOf : Option Way → ℕ → List ℕ → Type 0
IsBestOf best length behind = (way : Way) × (best ≡ Some way)
    × IsUpToWay way.length way.behind.items length behind

-- the walks over a line and then by the one from there that a search has found are not before this
-- one, if they are within the bound
abbrev pub IsBestOver : Search → Labels → Option Way → ℕ → Type 0
IsBestOver search labels best next = (way : Way) → way_in labels next ≡ Some way
    → rest_of_line search.map.now (from_of search) + way.length ≤ search.bound
    → IsBestOf best (rest_of_line search.map.now (from_of search) + way.length)
    (next ∷ way.behind.items)

-- it is such a walk itself
pub record IsDeparting (search : Search) (way : Way) : Type 0 where
  pub leads : LeadsOn search (from_of search) way.length way.behind.items
  pub leaves_line : way.behind.items ≢ []

-- the first of the walks from the place where they begin, within the bound
pub record IsFirstDeparting (search : Search) (labels : Labels) (best : Option Way) : Type 0 where
  pub departs : IfSome best (IsDeparting search)
  pub first : MayDepart search → (next : ℕ) → IsTurn search.map.now (from_of search).line next
      → IsBestOver search labels best next
