-- The entry of a matching on the map lies on the map.
use Rattle.olr_report.proofs.Common.{Reference, RoadMap, Entry, IsEntryOf, IsOnMap, HasMatched}
use Rattle.olr_report.proofs.Lines.{route_of, location_of}

module _ (road : RoadMap) (reference : Reference) where
  pub on_map : (entry : Entry) → HasMatched road entry.matched → IsEntryOf reference entry
      → IsOnMap road entry
  on_map entry matched is = record {
    matched = matched;
    route = route_of road entry.matched.legs entry.route matched.legs is.route;
    located = location_of road entry.matched.legs reference entry.located matched.legs is.location;
  }
