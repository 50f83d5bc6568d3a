-- Laws on places, verdicts and margins. Each is the contract of a public function that does nothing
-- at run time. Totals and gaps are in penalty points.
use Rattle.std.specs.Prelude.{◌≡◌, ℕ, ◌+◌, ◌<◌, ◌≤◌, ◌↔◌, List, [], All, AllPairs, Contains, Some, MatchOption, length, slice_get}
use Rattle.olr_keys.specs.Answers.{AreAnswers}
use Rattle.olr_keys.specs.Key.{KeyValue}
use Rattle.olr_road.specs.RoadMap.{IsSoundMap, RoadMap}
use Rattle.olr_matching.specs.Layers.{LayersValue}
use Rattle.olr_report.specs.Entries.{Entry, IsEntryAt}
use Rattle.olr_places.specs.Closeness.{IsClose, ground_of}
use Rattle.olr_places.specs.Looking.{IsLooked, Looked, listed_of, openers_of}
use Rattle.olr_places.specs.Verdict.{margin_of, verdict_of}
use Rattle.olr_places.specs.declared.ending.Verdict.TheVariants as verdict
use Rattle.olr_places.specs.declared.limits.PlaceLimits.{PlaceLimits}

-- Looking at the matchings of a reference on a map gives one value at most, by the limits and by
-- the keys of the matchings.
abbrev pub OneLooking : Type 0
OneLooking = (limits : PlaceLimits) (road : RoadMap) (layers : LayersValue)
    (answers : List KeyValue) (looked other : Looked) → IsSoundMap road
    → IsLooked limits road layers answers looked → IsLooked limits road layers answers other
    → looked ≡ other

-- ---- how many

-- at most as many matchings were looked at as are asked for, and at most as many places are listed
pub record IsAtMost (limits : PlaceLimits) (looked : Looked) : Type 0 where
  pub looked_at : length looked.matchings ≤ limits.look
  pub listed : length (listed_of limits looked.matchings) ≤ limits.most

-- Looking never goes beyond what is asked for.
abbrev pub LooksAtMost : Type 0
LooksAtMost = (limits : PlaceLimits) (road : RoadMap) (layers : LayersValue)
    (answers : List KeyValue) (looked : Looked) → IsLooked limits road layers answers looked
    → IsAtMost limits looked

-- ---- places

-- a matching is close to another one
abbrev pub AreClose : PlaceLimits → Entry → Entry → Type 0
AreClose limits one other =
    IsClose limits.apart (ground_of one.located) (ground_of other.located)

-- no two matchings that open a place are close
abbrev pub OpenersAreApart : Type 0
OpenersAreApart = (limits : PlaceLimits) (matchings : List Entry)
    → AllPairs (λ (earlier later : Entry). ¬ (AreClose limits later earlier))
    (openers_of limits matchings)

-- ---- verdicts and margins, by all matchings of a reference

-- All matchings of a reference on a map were looked at in order, by their keys, as far as the
-- limits say.
pub record WereLookedAt (limits : PlaceLimits) (road : RoadMap) (layers : LayersValue)
    (answers : List KeyValue) (looked : Looked) : Type 0 where
  pub sound : IsSoundMap road
  pub keys : AreAnswers layers.penalties answers
  pub is_looked : IsLooked limits road layers answers looked

-- one of the matchings: that of one of the keys
pub record IsOneOf (road : RoadMap) (layers : LayersValue) (answers : List KeyValue) (one : Entry)
    : Type 0 where
  pub among : Contains answers one.key
  pub is_entry : IsEntryAt road layers one

-- the first of the matchings, which has the least total
pub record IsFirstOf (road : RoadMap) (layers : LayersValue) (answers : List KeyValue) (one : Entry)
    : Type 0 where
  pub first : slice_get answers 0 ≡ Some one.key
  pub is_entry : IsEntryAt road layers one

-- `none` exactly where there is no matching
abbrev pub NoneWithoutMatching : Type 0
NoneWithoutMatching = (limits : PlaceLimits) (road : RoadMap) (layers : LayersValue)
    (answers : List KeyValue) (looked : Looked) → IsLooked limits road layers answers looked
    → (verdict_of limits looked ≡ verdict.None) ↔ (answers ≡ [])

-- `unique` only where each matching whose gap is at most what is asked for is close to the first
-- one
abbrev pub UniqueIsClose : Type 0
UniqueIsClose = (limits : PlaceLimits) (road : RoadMap) (layers : LayersValue)
    (answers : List KeyValue) (looked : Looked) (first one : Entry)
    → WereLookedAt limits road layers answers looked → verdict_of limits looked ≡ verdict.Unique
    → IsFirstOf road layers answers first → IsOneOf road layers answers one
    → one.key.total ≤ first.key.total + limits.within → AreClose limits one first

-- a matching whose place is listed, whose gap is at most what is asked for, and which isn't close
-- to the first one
pub record IsElsewhere (limits : PlaceLimits) (road : RoadMap) (layers : LayersValue)
    (answers : List KeyValue) (matchings : List Entry) (first other : Entry) : Type 0 where
  pub is_one : IsOneOf road layers answers other
  pub listed : Contains (listed_of limits matchings) other
  pub within : other.key.total ≤ first.key.total + limits.within
  pub apart : ¬ (AreClose limits other first)

-- `ambiguous` only where there is such a matching
abbrev pub AmbiguousIsElsewhere : Type 0
AmbiguousIsElsewhere = (limits : PlaceLimits) (road : RoadMap) (layers : LayersValue)
    (answers : List KeyValue) (looked : Looked) (first : Entry)
    → WereLookedAt limits road layers answers looked → verdict_of limits looked ≡ verdict.Ambiguous
    → IsFirstOf road layers answers first
    → (other : Entry) × IsElsewhere limits road layers answers looked.matchings first other

-- The gap of the nearest matching that isn't close to the first one: it was looked at, and each
-- matching with a lesser gap is close to the first one.
pub record IsMargin (limits : PlaceLimits) (road : RoadMap) (layers : LayersValue)
    (answers : List KeyValue) (matchings : List Entry) (first : Entry) (gap : ℕ) : Type 0 where
  pub nearest : Entry
  pub is_one : IsOneOf road layers answers nearest
  pub looked_at : Contains matchings nearest
  pub total_is : nearest.key.total ≡ first.key.total + gap
  pub apart : ¬ (AreClose limits nearest first)
  pub nearer : (one : Entry) → IsOneOf road layers answers one
      → one.key.total < first.key.total + gap → AreClose limits one first

-- The margin is this gap; where there is none, each matching that was looked at is close to the
-- first one.
abbrev pub MarginIsOfNearest : Type 0
MarginIsOfNearest = (limits : PlaceLimits) (road : RoadMap) (layers : LayersValue)
    (answers : List KeyValue) (looked : Looked) (first : Entry)
    → WereLookedAt limits road layers answers looked → IsFirstOf road layers answers first
    → MatchOption (margin_of limits looked.matchings)
    (All (λ (one : Entry). AreClose limits one first) looked.matchings)
    (IsMargin limits road layers answers looked.matchings first)
