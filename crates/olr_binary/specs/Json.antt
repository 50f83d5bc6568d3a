-- The JSON that `show` prints of a reference, as a value: each member of an object under its name,
-- in the order of the names. Coordinates are in microdegrees, offsets in shares of 1/256, and what
-- a point or a reference doesn't have is null.
use Rattle.std.specs.Prelude.{ℕ, List, Option, option_map, codes}
use Rattle.serde_json.specs.Data.{Data, string, object, no_members, member}
use Rattle.olr_binary.specs.declared.point.Point.{Point}
use Rattle.olr_binary.specs.declared.point.Next.{Next}
use Rattle.olr_binary.specs.declared.reference.Reference.{Reference}
use Rattle.olr_binary.specs.declared.reference.Reference.TheVariants.{Line, PointAlong}
use Rattle.olr_text.specs.JsonValues.{whole, whole_or_null, integer, array_of, IsJsonLine}

-- a point; its interval and its lowest class are those of the path to the next point, so the last
-- point has neither
abbrev pub point_object : Point → Data
point_object point = object (
    member (codes "class") (whole point.class) (
    member (codes "form") (whole point.form) (
    member (codes "interval") (whole_or_null
    (option_map (λ (next : Next). next.interval) point.next)) (
    member (codes "lat") (integer point.at.lat) (
    member (codes "lon") (integer point.at.lon) (
    member (codes "lowest") (whole_or_null (option_map (λ (next : Next). next.lowest) point.next)) (
    member (codes "sector") (whole point.sector) no_members)))))))

-- a line
abbrev pub line_object : List Point → Option ℕ → Option ℕ → Data
line_object points positive negative = object (
    member (codes "kind") (string (codes "line")) (
    member (codes "negative") (whole_or_null negative) (
    member (codes "points") (array_of point_object points) (
    member (codes "positive") (whole_or_null positive) no_members))))

-- a point along a line
abbrev pub point_along_object : List Point → ℕ → ℕ → Option ℕ → Data
point_along_object points orientation side positive = object (
    member (codes "kind") (string (codes "point-along-line")) (
    member (codes "orientation") (whole orientation) (
    member (codes "points") (array_of point_object points) (
    member (codes "positive") (whole_or_null positive) (
    member (codes "side") (whole side) no_members)))))

-- a reference
abbrev pub reference_object : Reference → Data
reference_object (Line points positive negative) = line_object points.items positive negative
reference_object (PointAlong points orientation side positive) =
    point_along_object points.items orientation side positive

-- the JSON of a reference: the line of its value
abbrev pub IsReferenceJson : Reference → List ℕ → Type 0
IsReferenceJson reference text = IsJsonLine (reference_object reference) text
