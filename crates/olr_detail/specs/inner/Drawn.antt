-- Where a matching is drawn, as it is kept.
use Rattle.std.specs.Prelude.{map}
use Rattle.olr_base.specs.Coordinates.{coordinates_of}
use Rattle.olr_geojson.specs.Geometry.{Geometry, line_string, missing, point}
use Rattle.olr_detail.specs.declared.drawing.Drawn.{Drawn}
use Rattle.olr_detail.specs.declared.drawing.Drawn.TheVariants.{Line, Missing, Point}

-- the geometry
abbrev pub drawn_geometry : Drawn → Geometry
drawn_geometry Missing = missing
drawn_geometry (Point spot) = point (coordinates_of spot)
drawn_geometry (Line spots) = line_string (map coordinates_of spots.items)
