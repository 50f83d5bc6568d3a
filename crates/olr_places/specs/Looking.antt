-- The places of a reference: which of its matchings are looked at, which of them open a place, and
-- where looking ends. Totals and gaps are in penalty points.
-- (Places, and where looking ends, are this project's choice.)
use Rattle.std.specs.Prelude.{◌≡◌, ℕ, ◌-◌, Bool, ◌==◌, nat_le, nat_lt, if◌then◌else◌, List, [], ◌∷◌, ◌++◌, length, filter, All, Option, None}
use Rattle.std.specs.List.{list_any, position_or_len}
use Rattle.olr_keys.specs.Key.{KeyValue}
use Rattle.olr_keys.specs.Page.{last_of}
use Rattle.olr_road.specs.RoadMap.{RoadMap}
use Rattle.olr_matching.specs.Layers.{LayersValue}
use Rattle.olr_report.specs.Entries.{Entry, IsEntryAt, keys_of}
use Rattle.olr_places.specs.Closeness.{ground_of, is_close}
use Rattle.olr_places.specs.declared.ending.Ending.{Ending}
use Rattle.olr_places.specs.declared.ending.Ending.TheVariants.{Beyond, Cut, NoMore}
use Rattle.olr_places.specs.declared.limits.PlaceLimits.{PlaceLimits}

-- the gap of the matching of a key: its total less that of the first of these matchings
abbrev pub gap_of : List Entry → KeyValue → ℕ
gap_of [] key = 0
gap_of (first ∷ others) key = key.total - first.key.total

-- the matchings that were looked at, in order, and why looking ended
pub record Looked : Type 0 where
  pub matchings : List Entry
  pub ending : Ending

-- the key behind which looking would go on: the last one that was looked at, where it was cut off
abbrev pub key_behind : Ending → Option KeyValue → Option KeyValue
key_behind NoMore last = None
key_behind (Beyond gap) last = None
key_behind Cut last = last

abbrev pub next_of : Looked → Option KeyValue
next_of looked = key_behind looked.ending (last_of None (keys_of looked.matchings))

-- ---- places

module _ (limits : PlaceLimits) where
  -- whether a matching is close to another one
  abbrev pub is_close_to : Entry → Entry → Bool
  is_close_to one other =
      is_close limits.apart (ground_of one.located) (ground_of other.located)

  -- whether a matching belongs to a place that one of these opened
  abbrev pub belongs : List Entry → Entry → Bool
  belongs openers one = list_any (is_close_to one) openers

  -- those that open a place, going on from these openers: a matching that belongs to no place
  -- before it opens one
  abbrev pub openers_on : List Entry → List Entry → List Entry
  openers_on openers [] = openers
  openers_on openers (one ∷ left) =
      if belongs openers one then openers_on openers left else openers_on (openers ++ one ∷ []) left

  -- the matchings that open a place, in order
  abbrev pub openers_of : List Entry → List Entry
  openers_of matchings = openers_on [] matchings

  -- the index of the place that a matching belongs to: the first one whose opener it is close to
  abbrev pub place_of : List Entry → Entry → ℕ
  place_of openers one = position_or_len (is_close_to one) openers

  -- how many of the matchings belong to the place of this index, its opener too
  abbrev pub members_of : List Entry → ℕ → ℕ
  members_of matchings index =
      length (filter (λ (one : Entry). place_of (openers_of matchings) one == index) matchings)

  -- whether the gap of a matching is at most what is asked for
  abbrev pub is_within : List Entry → Entry → Bool
  is_within matchings one = nat_le (gap_of matchings one.key) limits.within

  -- the openers of the places that are listed
  abbrev pub listed_of : List Entry → List Entry
  listed_of matchings = filter (is_within matchings) (openers_of matchings)

  -- ---- looking

  -- What looking gives at the matchings that are left, in order, where these were looked at before.
  -- It ends where none is left; behind a matching that opens a place with a gap beyond what is
  -- asked for; after as many as are asked for; and before a matching that would open a place too
  -- many.
  abbrev pub looking_on : List Entry → List Entry → Looked
  looking_on before [] = record { matchings = before; ending = NoMore }
  looking_on before (one ∷ left) =
      if length before == limits.look then record { matchings = before; ending = Cut }
      else if belongs (openers_of before) one then looking_on (before ++ one ∷ []) left
      else if nat_lt limits.within (gap_of before one.key)
      then record { matchings = before ++ one ∷ []; ending = Beyond (gap_of before one.key) }
      else if length (openers_of before) == limits.most
      then record { matchings = before; ending = Cut } else looking_on (before ++ one ∷ []) left

  abbrev pub looking : List Entry → Looked
  looking matchings = looking_on [] matchings

  -- Looking at the matchings of a reference on a map, by their keys in order: those of the first
  -- keys were seen, and so looking gives, whatever the matchings of the keys that are left.
  pub record IsLooked (road : RoadMap) (layers : LayersValue) (answers : List KeyValue)
      (looked : Looked) : Type 0 where
    pub seen : List Entry
    pub left : List KeyValue
    pub keys : answers ≡ keys_of seen ++ left
    pub each : All (IsEntryAt road layers) seen
    pub looked_at : (behind : List Entry) × (seen ≡ looked.matchings ++ behind)
    pub looks : (others : List Entry) → keys_of others ≡ left → looking (seen ++ others) ≡ looked
