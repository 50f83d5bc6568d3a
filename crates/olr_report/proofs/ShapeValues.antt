-- The shape that a call returned has the value of the matching's shape.
use Rattle.std.specs.Global.{Vec}
use Rattle.olr_base.specs.Coordinates.{coordinates_of}
use Rattle.olr_base.specs.declared.degrees.Degrees.{Degrees}
use Rattle.serde_json.specs.View.{items_of}
use Rattle.serde_json.specs.Data.{array}
use Rattle.olr_shape.specs.Shape.{shape_on}
use Rattle.olr_text.specs.JsonValues.{coordinates_array}
use Rattle.olr_report.specs.Shapes.{part_shape, place_value, points_value, shape_array, shape_object, shape_value}
use Rattle.olr_report.specs.declared.locating.Located.TheVariants as returned
use Rattle.olr_report.specs.declared.shape_json.MatchingShape.TheVariants as drawn
use Rattle.olr_report.proofs.Common.{Piece, Place, RoadMap, ◌≡◌, ◌∙◌, List, [], ◌∷◌, Option, map, refl, ap, array_of, located_value, pieces_if_any}

pub mapped : {A B C : Type 0} (f : B → C) (g : A → B) (all : List A)
    → map (λ a. f (g a)) all ≡ map f (map g all)
mapped f g [] = refl
mapped f g (a ∷ all) = cc (mapped f g all)

module _ (road : RoadMap) where
  pub drawn_is : (pieces : List Piece) (points : List Degrees)
      → map coordinates_of points ≡ shape_on road pieces
      → array_of place_value points ≡ shape_array road pieces
  drawn_is pieces points is =
      ap (λ all. array (items_of all)) (mapped coordinates_array coordinates_of points)
      ∙ ap (array_of coordinates_array) is

  module _ (route : List Piece) (points : Vec Degrees)
      (is : map coordinates_of points.items ≡ shape_on road route) where
    pub line_drawn : (outer inner : Option (Vec Piece)) (a b : Option (Vec Degrees))
        → points_value a ≡ part_shape road (pieces_if_any inner)
        → points_value b ≡ part_shape road (pieces_if_any outer)
        → shape_value (drawn.Line a b points)
        ≡ shape_object road route (located_value (returned.Line outer inner))
    line_drawn outer inner a b inner_is outer_is =
        rw (inner_is, outer_is, drawn_is route points.items is) refl

    pub point_drawn : (earliest latest : Place) → shape_value (drawn.Point points)
        ≡ shape_object road route (located_value (returned.Point earliest latest))
    point_drawn earliest latest = rw (drawn_is route points.items is) refl
