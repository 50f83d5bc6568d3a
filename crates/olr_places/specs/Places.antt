-- What is kept of the matchings that were looked at.
use Rattle.std.specs.Prelude.{◌≡◌, ℕ, ◌+◌, List, [], ◌∷◌, length, map, All, None}
use Rattle.olr_keys.specs.Page.{last_of}
use Rattle.olr_road.specs.RoadMap.{RoadMap}
use Rattle.olr_matching.specs.Layers.{LayersValue}
use Rattle.olr_report.specs.Entries.{Entry, IsEntryAt, IsOnMap, keys_of}
use Rattle.olr_report.specs.Location.{located_value}
use Rattle.olr_places.specs.Looking.{Looked, gap_of, listed_of, members_of}
use Rattle.olr_places.specs.Verdict.{margin_of, verdict_by}
use Rattle.olr_places.specs.declared.ending.Verdict.{Verdict}
use Rattle.olr_places.specs.declared.limits.PlaceLimits.{PlaceLimits}
use Rattle.olr_places.specs.declared.opener.Opener.{Opener}
use Rattle.olr_places.specs.declared.places.Places.{Places}

-- the matching that opened a place
abbrev pub entry_of : Opener → Entry
entry_of opener = record {
  key = opener.key;
  matched = opener.matched;
  route = opener.route.items;
  located = located_value opener.covered.located;
}

-- it is the matching of its key, and lies on lines of the map
pub record IsOpenerAt (road : RoadMap) (layers : LayersValue) (opener : Opener) : Type 0 where
  pub is_entry : IsEntryAt road layers (entry_of opener)
  pub on_map : IsOnMap road (entry_of opener)

-- the opener of the place of this index has its gap, and the number of the matchings that belong to
-- the place
pub record IsCounted (limits : PlaceLimits) (matchings : List Entry) (index : ℕ) (opener : Opener)
    : Type 0 where
  pub gap : opener.gap ≡ gap_of matchings opener.key
  pub members : opener.members ≡ members_of limits matchings index

-- and so it is for each opener, the first of which has this index
abbrev pub AreCounted : PlaceLimits → List Entry → ℕ → List Opener → Type 0
AreCounted limits matchings index [] = Unit {0}
AreCounted limits matchings index (opener ∷ openers) =
    IsCounted limits matchings index opener × AreCounted limits matchings (index + 1) openers

-- The places of the matchings that were looked at: the openers of those that are listed, with the
-- gap and the members of each, how many matchings were looked at, the last one of them, the margin,
-- and why looking ended.
pub record ArePlacesOf (limits : PlaceLimits) (looked : Looked) (places : Places) : Type 0 where
  pub openers : map entry_of places.openers.items ≡ listed_of limits looked.matchings
  pub counted : AreCounted limits looked.matchings 0 places.openers.items
  pub count : places.looked ≡ length looked.matchings
  pub last : places.last ≡ last_of None (keys_of looked.matchings)
  pub margin : places.margin ≡ margin_of limits looked.matchings
  pub ending : places.ending ≡ looked.ending

-- the openers lie on lines of the map
abbrev pub AreOnMap : RoadMap → Places → Type 0
AreOnMap road places = All (λ (opener : Opener). IsOnMap road (entry_of opener))
    places.openers.items

-- the verdict, by what is kept
abbrev pub verdict_in : Places → Verdict
verdict_in places = verdict_by places.looked (length places.openers.items) places.ending
