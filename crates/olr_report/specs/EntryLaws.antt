-- Laws on the entries of matchings. Each is the contract of a public function that does nothing at
-- run time.
use Rattle.std.specs.Prelude.{◌≡◌, List}
use Rattle.olr_road.specs.RoadMap.{IsSoundMap}
use Rattle.olr_matching.specs.Layers.{LayersValue}
use Rattle.olr_matching.specs.Matched.{IsSoundMatched}
use Rattle.olr_report.specs.Common.{KeyValue, Matched, Reference, RoadMap}
use Rattle.olr_report.specs.Entries.{AreEntriesAt, AreEntriesOf, CanBeShown, Entry, IsEntryAt}

-- keys with parts of each have one list of entries at most
abbrev pub OneOfParts : Type 0
OneOfParts = (reference : Reference) (keys : List KeyValue) (matched : List Matched)
    (one other : List Entry) → AreEntriesOf reference keys matched one
    → AreEntriesOf reference keys matched other → one ≡ other

-- a key has one entry at most, that of its matching on the map
abbrev pub OneEntry : Type 0
OneEntry = (road : RoadMap) (layers : LayersValue) → IsSoundMap road → (one other : Entry)
    → one.key ≡ other.key → IsEntryAt road layers one → IsEntryAt road layers other → one ≡ other

-- and keys have one list of them at most
abbrev pub OneEntries : Type 0
OneEntries = (road : RoadMap) (layers : LayersValue) → IsSoundMap road → (keys : List KeyValue)
    (one other : List Entry) → AreEntriesAt road layers keys one
    → AreEntriesAt road layers keys other → one ≡ other

-- sound parts, as the matching of every key has them, can be shown
abbrev pub SoundCanBeShown : Type 0
SoundCanBeShown = (road : RoadMap) (reference : Reference) (matched : Matched)
    → IsSoundMatched road reference matched → CanBeShown road reference matched
