-- Lines of a map as features of GeoJSON.
use Rattle.std.specs.Prelude.{ℕ, Bool, List, [], Option, None, Some, codes, map, slice_get}
use Rattle.serde_json.specs.Data.{Members, boolean, member, no_members, string}
use Rattle.olr_geojson.specs.Collection.{collection_text}
use Rattle.olr_geojson.specs.Feature.{Feature}
use Rattle.olr_geojson.specs.Geometry.{Geometry, line_string, missing}
use Rattle.olr_road.specs.RoadMap.{RoadLine, RoadMap}
use Rattle.olr_lines.specs.Json.{line_value}
use Rattle.olr_lines.specs.declared.lines.LinesInBox.{LinesInBox}

-- a line, along its points; nowhere where there is none
abbrev pub line_drawn : Option RoadLine → Geometry
line_drawn None = missing
line_drawn (Some line) = line_string line.points

-- the line of a rank of a map, whose properties are the members of its object
abbrev pub line_feature : RoadMap → Bool → ℕ → Feature
line_feature road shapes rank = record {
  geometry = line_drawn (slice_get road.lines rank);
  properties = line_value road shapes rank;
}

-- the members of a collection behind its features: whether there are others, and the type
abbrev pub members_behind : Bool → Members
members_behind more = member (codes "more") (boolean more) (
    member (codes "type") (string (codes "FeatureCollection")) no_members)

-- the line of a collection of lines of a map, a feature for each
abbrev pub lines_collection : RoadMap → Bool → LinesInBox → List ℕ
lines_collection road shapes found = collection_text []
    (map (line_feature road shapes) found.ranks.items) (members_behind found.more)
