-- What the search for the lines nearest to a query's point finds on its way.
use Rattle.std.specs.Prelude.{◌≡◌, ℕ, ◌-◌, ◌<◌, ◌≤◌, ◌⊎◌, min, List, length, slice_get, slice_index_or, Some, take, insert, All, AllPairs, Contains}
use Rattle.olr_candidates.specs.Common.{coordinates_of, RoadLine}
use Rattle.olr_candidates.specs.declared.near.NearLine.{NearLine}
use Rattle.olr_candidates.specs.declared.query.Query.{Query}
use Rattle.olr_candidates.specs.Near.{AreNearest, IsNearer, IsNearLineAt}
use Rattle.olr_candidates.specs.Query.{HoldAllWithin}

-- A line goes into a list, behind one that it isn't nearer than and before those that it is nearer
-- than; and of the list the first `count` are kept.
pub record Keeps (old : List NearLine) (near : NearLine) (count : ℕ) (new : List NearLine) : Type 0
  where
    pub index : ℕ
    pub within : index ≤ length old
    pub before : (d : NearLine) → 0 < index → IsNearer near (slice_index_or old (index - 1) d) → ⊥
    pub behind : (k : ℕ) (d : NearLine) → index ≤ k → k < length old
        → IsNearer near (slice_index_or old k d)
    pub kept : new ≡ take count (insert old index near)

module _ (query : Query) (lines : List RoadLine) where
  -- the line of a rank is this line near the query's point
  abbrev pub FindsNear : ℕ → NearLine → Type 0
  FindsNear rank near = IsNearLineAt query.tolerances (coordinates_of query.plane) query.point
      query.is_last lines rank near

  -- there are so many lines in a list, and the line of a rank is farther away than the last one
  pub record IsBehindLast (rank count : ℕ) (list : List NearLine) : Type 0 where
    pub full : length list ≡ count
    pub last : NearLine
    pub last_is : slice_get list (length list - 1) ≡ Some last
    pub behind : (near : NearLine) → FindsNear rank near → last.distance < near.distance

  -- the nearest lines of the map, `count` of them
  abbrev pub AnswersNearest : ℕ → List NearLine → Type 0
  AnswersNearest count nearest = AreNearest query.tolerances (coordinates_of query.plane)
      query.point query.is_last lines count nearest

  -- a line near the query's point, of one of these ranks
  abbrev pub IsAmong : List ℕ → NearLine → Type 0
  IsAmong ranks near = Contains ranks near.line × FindsNear near.line near

  -- The nearest of the lines of these ranks, `count` of them, or all where these are fewer: every
  -- other one comes after each of them.
  pub record AreNearestAmong (ranks : List ℕ) (count : ℕ) (nearest : List NearLine) : Type 0 where
    pub only : All (IsAmong ranks) nearest
    pub rise : AllPairs IsNearer nearest
    pub counted : length nearest ≡ min count (length ranks)
    pub others : (near : NearLine) → IsAmong ranks near
        → Contains nearest near ⊎ ((count ≤ length nearest)
        × All (λ (item : NearLine). IsNearer item near) nearest)

  -- the nearest among lines that cover a radius
  abbrev pub AreNearestWithin : ℕ → ℕ → List NearLine → Type 0
  AreNearestWithin radius count nearest = (ranks : List ℕ) × HoldAllWithin query lines radius ranks
      × AreNearestAmong ranks count nearest
