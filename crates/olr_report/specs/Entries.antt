-- The entries of a page: its matchings as values, whatever the format that shows them.
use Rattle.std.specs.Prelude.{◌≡◌, ℕ, ◌<◌, List, length, map, Option, IfSome, All}
use Rattle.olr_matching.specs.Layers.{LayersValue}
use Rattle.olr_matching.specs.Matched.{IsMatchedBy}
use Rattle.olr_report.specs.Common.{Candidate, KeyValue, Leg, Matched, Piece, Reference, RoadMap}
use Rattle.olr_report.specs.Joined.{IsJoinedRoute}
use Rattle.olr_report.specs.Location.{AreLegsOf, IsLocation, LocatedLine, LocatedPoint, LocatedValue, located_value}
use Rattle.olr_report.specs.declared.matching_json.ShownMatching.{ShownMatching}
use Rattle.olr_report.specs.declared.page_entries.Entry.{Entry as Returned}

-- a matching: its key, its parts, the joined route of its legs, and the location of the reference
-- on this route
pub record Entry : Type 0 where
  pub key : KeyValue
  pub matched : Matched
  pub route : List Piece
  pub located : LocatedValue

-- the entry that a call returned
abbrev pub entry_of : Returned → Entry
entry_of entry = record {
  key = entry.key.now;
  matched = entry.matched.now;
  route = entry.route.items;
  located = located_value entry.location;
}

-- the entry that a call was given to show
abbrev pub shown_entry : ShownMatching → Entry
shown_entry shown = record {
  key = shown.key.now;
  matched = shown.matched.now;
  route = shown.route.now;
  located = located_value shown.location.now;
}

-- the route and the location are those of the legs
pub record IsEntryOf (reference : Reference) (entry : Entry) : Type 0 where
  pub route : IsJoinedRoute entry.matched.legs entry.route
  pub location : IsLocation entry.matched.legs reference entry.located

-- the keys of entries
abbrev pub keys_of : List Entry → List KeyValue
keys_of entries = map (λ (entry : Entry). entry.key) entries

-- the entries of these keys and parts, one for each, in order
pub record AreEntriesOf (reference : Reference) (keys : List KeyValue) (matched : List Matched)
    (entries : List Entry) : Type 0 where
  pub keys_are : keys_of entries ≡ keys
  pub matched_are : map (λ (entry : Entry). entry.matched) entries ≡ matched
  pub each : All (IsEntryOf reference) entries

-- ---- the matchings of a reference on a map

-- a matching of these layers: its parts are those of its key
pub record IsEntryAt (road : RoadMap) (layers : LayersValue) (entry : Entry) : Type 0 where
  pub parts : IsMatchedBy road layers entry.key entry.matched
  pub is_entry : IsEntryOf layers.reference entry

-- the matchings of these keys, in order
pub record AreEntriesAt (road : RoadMap) (layers : LayersValue) (keys : List KeyValue)
    (entries : List Entry) : Type 0 where
  pub keys_are : keys_of entries ≡ keys
  pub each : All (IsEntryAt road layers) entries

-- ---- lines of the map

-- the map has a line of this rank
abbrev pub HasLine : RoadMap → ℕ → Type 0
HasLine road rank = rank < length road.lines

-- the pieces lie on lines of the map
abbrev pub HasPieces : RoadMap → List Piece → Type 0
HasPieces road pieces = All (λ (piece : Piece). HasLine road piece.line) pieces

-- a part of a route, if there is one, lies on lines of the map
abbrev pub HasPart : RoadMap → Option (List Piece) → Type 0
HasPart road part = IfSome part (HasPieces road)

-- the location lies on lines of the map
abbrev pub HasLocation : RoadMap → LocatedValue → Type 0
HasLocation road (LocatedLine outer inner) = HasPart road outer × HasPart road inner
HasLocation road (LocatedPoint earliest latest) =
    HasLine road earliest.line × HasLine road latest.line

-- the candidates and the routes of the legs of a matching lie on lines of the map
pub record HasMatched (road : RoadMap) (matched : Matched) : Type 0 where
  pub candidates : All (λ (candidate : Candidate). HasLine road candidate.place.line)
      matched.candidates
  pub legs : All (λ (leg : Leg). HasPieces road leg.route) matched.legs

-- the candidates of an entry, its legs, its route and its location lie on lines of the map
pub record IsOnMap (road : RoadMap) (entry : Entry) : Type 0 where
  pub matched : HasMatched road entry.matched
  pub route : HasPieces road entry.route
  pub located : HasLocation road entry.located

-- The parts of a matching that can be shown: its legs lie between the points of the reference, and
-- its lines are on the map.
pub record CanBeShown (road : RoadMap) (reference : Reference) (matched : Matched) : Type 0 where
  pub legs : AreLegsOf reference matched.legs
  pub on_map : HasMatched road matched
