-- Lines as they are shown, and their features.
use Rattle.std.specs.Borrow.{Bor}
use Rattle.std.specs.Prelude.{Bool, true, false, Option, None, Some, IfSome, codes, if◌then◌else◌, option_map, slice_get}
use Rattle.std.proofs.Common.{◌≡◌, ◌≢◌, ◌+◌, ◌-◌, ◌≤◌, ℕ, ◌∙◌, List, [], ◌∷◌, ◌++◌, map, refl, ap, arith}
use Rattle.serde_json.specs.Data.{Data, Members, array, member, no_members}
use Rattle.serde_json.specs.View.{items_of}
use Rattle.olr_base.specs.Coordinates.{Coordinates, coordinates_of}
use Rattle.olr_base.specs.declared.degrees.Degrees.{Degrees}
use Rattle.olr_geojson.specs.Feature.{Feature, feature_text}
use Rattle.olr_geojson.specs.Joined.{behind_commas}
use Rattle.olr_road.specs.RoadMap.{RoadLine, RoadMap, head_of}
use Rattle.olr_road.specs.declared.line.Line.{Line}
use Rattle.olr_text.specs.JsonValues.{NestsWithin, coordinates_array}
use Rattle.olr_text.proofs.Nesting.{items_nest, option_nests}
use Rattle.olr_text.specs.Texts.{texts_from}
use Rattle.olr_lines.specs.declared.lines_on.RankedLine.{RankedLine}
use Rattle.olr_lines.specs.Json.{line_object, line_value, node_id_at, points_if, points_value, shape_of}

-- the points of a line, as a call returned them
fused : (points : List Degrees) → map (λ (at : Degrees). coordinates_array (coordinates_of at)) points
    ≡ map coordinates_array (map coordinates_of points)
fused [] = refl
fused (at ∷ points) = ap (λ rest. coordinates_array (coordinates_of at) ∷ rest) (fused points)

fused_ranks : (value : ℕ → Data) (lines : List RankedLine)
    → map (λ (line : RankedLine). value line.rank) lines
    ≡ map value (map (λ (line : RankedLine). line.rank) lines)
fused_ranks value [] = refl
fused_ranks value (line ∷ lines) =
    ap (λ rest. value line.rank ∷ rest) (fused_ranks value lines)

pub points_are : (found : Option RoadLine) (points : Bor (List Degrees))
    → option_map (λ (line : RoadLine). line.points) found ≡ Some (map coordinates_of points.now)
    → Some (points_value points) ≡ option_map shape_of found
points_are None points is = absurd cc
points_are (Some line) points is =
    let same : map coordinates_of points.now ≡ line.points = cc in
    ap (λ values. Some (array (items_of values)))
    (fused points.now ∙ ap (λ at. map coordinates_array at) same)

-- the object of a line whose head, ids of nodes and points a call found
pub object_is : (found : Option RoadLine) (head : Line) (value : RoadLine → Data)
    → option_map head_of found ≡ Some head → (shown : Data)
    → ((line : RoadLine) → found ≡ Some line → head_of line ≡ head → shown ≡ value line)
    → Some shown ≡ option_map value found
object_is None head value is shown same = absurd cc
object_is (Some line) head value is shown same = ap Some (same line refl cc)

-- an object with a member isn't empty
pub not_empty : (name : List ℕ) (value : Data) (others : Members)
    → member name value others ≢ no_members
not_empty name value others same = absurd cc

-- the values of lines by their ranks
pub by_rank : (value : ℕ → Data) (lines : List RankedLine) (ranks : List ℕ)
    → map (λ (line : RankedLine). line.rank) lines ≡ ranks
    → map (λ (line : RankedLine). value line.rank) lines ≡ map value ranks
by_rank value lines ranks is = fused_ranks value lines ∙ ap (λ all. map value all) is

-- the features of items, each of which is written behind a comma
pub features_are : (feature : ℕ → Feature) (number : ℕ) (ranks : List ℕ)
    → texts_from (λ number rank. codes "," ++ feature_text (feature rank)) number ranks
    ≡ behind_commas feature_text (map feature ranks)
features_are feature number [] = refl
features_are feature number (rank ∷ ranks) =
    ap (λ rest. codes "," ++ feature_text (feature rank) ++ rest)
    (features_are feature (number + 1) ranks)

-- ---- how deep JSON nests

coordinates_nest : (most : ℕ) → 1 ≤ most → (at : Coordinates)
    → NestsWithin most (coordinates_array at)
coordinates_nest most enough at = (omega arith, (tt, (tt, tt)))

shape_nests : (most : ℕ) → 2 ≤ most → (line : RoadLine) → NestsWithin most (shape_of line)
shape_nests most enough line = (
  omega arith,
  items_nest coordinates_array (most - 1) (coordinates_nest (most - 1) (omega arith)) line.points,
)

object_nests : (most : ℕ) → 3 ≤ most → (from to : ℕ) (shape : Option Data) (line : Line)
    → IfSome shape (NestsWithin (most - 1)) → NestsWithin most (line_object from to shape line)
object_nests most enough from to None line nests = (omega arith, (tt, (tt, (tt, (tt, (tt, (tt, tt)))))))
object_nests most enough from to (Some shape) line nests =
    (omega arith, (tt, (tt, (tt, (tt, (tt, (nests, (tt, tt))))))))

points_nest : (most : ℕ) → 2 ≤ most → (shapes : Bool) (found : Option RoadLine)
    → IfSome (if shapes then option_map shape_of found else None) (NestsWithin most)
points_nest most enough false found = tt
points_nest most enough true None = tt
points_nest most enough true (Some line) = shape_nests most enough line

pub line_nests : (most : ℕ) → 3 ≤ most → (road : RoadMap) (shapes : Bool) (rank : ℕ)
    → NestsWithin most (line_value road shapes rank)
line_nests most enough road shapes rank = option_nests
    (λ (line : RoadLine). line_object (node_id_at road line.from) (node_id_at road line.to)
    (points_if road shapes rank) (head_of line)) most
    (λ line. object_nests most enough (node_id_at road line.from) (node_id_at road line.to) (points_if road shapes rank) (head_of line)
    (points_nest (most - 1) (omega arith) shapes (slice_get road.lines rank)))
    (slice_get road.lines rank)
