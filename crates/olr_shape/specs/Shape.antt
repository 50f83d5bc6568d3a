-- The shape of pieces of lines: the spots that they go through, in microdegrees. Positions on lines
-- are in decimetres.
-- (Shapes are this project's choice: references have none.)
use Rattle.std.specs.Prelude.{ℕ, Bool, ◌&&◌, List, [], ◌∷◌, ◌++◌, filter, flat_map, map, nat_lt, option_to_list, slice_get}
use Rattle.std.specs.Ordering.{int_eq}
use Rattle.std.specs.List.{dedup, enumerate_from}
use Rattle.olr_base.specs.Coordinates.{Coordinates, coordinates_of}
use Rattle.olr_base.specs.declared.degrees.Degrees.{Degrees}
use Rattle.olr_road.specs.RoadMap.{RoadLine, RoadMap}
use Rattle.olr_route.specs.declared.piece.Piece.{Piece}
use Rattle.olr_shape.specs.Position.{arc_of_point, arc_of_position, spot_at}

-- ---- pieces

module _ (from to : ℕ) (line : RoadLine) where
  -- whether a point of the line, given with its number, lies strictly between the positions
  abbrev pub is_between : ℕ × Coordinates → Bool
  is_between numbered =
      nat_lt (arc_of_position line.points line.length from)
      (arc_of_point line.points line.length numbered.0)
      && nat_lt (arc_of_point line.points line.length numbered.0)
      (arc_of_position line.points line.length to)

  -- the points that do
  abbrev pub points_between : List Coordinates
  points_between = map (λ (numbered : ℕ × Coordinates). numbered.1)
      (filter is_between (enumerate_from 0 line.points))

  -- the spots from one position to the other: theirs, and the points between
  abbrev pub spots_between : List Coordinates
  spots_between = option_to_list (spot_at line.points line.length from) ++ points_between
      ++ option_to_list (spot_at line.points line.length to)

-- the spots of a piece; none where the map has no such line
abbrev pub spots_of_piece : RoadMap → Piece → List Coordinates
spots_of_piece road piece = flat_map (spots_between piece.from piece.to)
    (option_to_list (slice_get road.lines piece.line))

-- ---- shapes

-- the coordinates of each of these
abbrev pub coordinates_of_all : List Degrees → List Coordinates
coordinates_of_all spots = map coordinates_of spots

-- whether two spots are the same
abbrev pub is_same : Coordinates → Coordinates → Bool
is_same a b = int_eq a.lon b.lon && int_eq a.lat b.lat

-- a shape has two spots at least: where there is only one, it stands twice
abbrev pub with_two_spots : List Coordinates → List Coordinates
with_two_spots (a ∷ []) = a ∷ a ∷ []
with_two_spots spots = spots

-- the shape of pieces: the spots of all of them in order, equal neighbours once
unfoldable pub shape_on : RoadMap → List Piece → List Coordinates
shape_on road pieces = with_two_spots (dedup is_same (flat_map (spots_of_piece road) pieces))
