-- The value of an entry nests four deep.
use Rattle.std.specs.Prelude.{IfSome, option_and_then}
use Rattle.olr_base.specs.Coordinates.{Coordinates}
use Rattle.olr_shape.specs.Position.{spot_on}
use Rattle.olr_shape.specs.Shape.{shape_on}
use Rattle.olr_text.specs.JsonValues.{MembersNestWithin, coordinates_array}
use Rattle.olr_report.specs.Json.{part_value, piece_array, pieces_array, place_array}
use Rattle.olr_report.specs.RoutePart.{part_drawn}
use Rattle.olr_report.specs.Shapes.{part_shape, shape_array, shape_object, spots_object, spots_of}
use Rattle.olr_report.specs.declared.route_part.RoutePart.{RoutePart}
use Rattle.olr_report.specs.Common.{Candidate}
use Rattle.olr_report.proofs.Common.{array_of, codes, member, no_members, whole, Entry, KeyValue, Leg, MapShown, Matched, Piece, Place, Reference, RoadMap, ◌≤◌, ◌-◌, ℕ, List, Option, None, Some, arith, rules, option_map, Data, Members, candidate_object, drawn_object, entry_object, leg_object, matching_object, maybe_member, shape_if_asked, spot_if_asked, spots_if_asked, first_length, LocatedLine, LocatedPoint, LocatedValue, NestsWithin, items_nest, option_nests}

-- ---- what may be missing

module _ (most : ℕ) where
  pub maybe_nests : (name : List ℕ) (value : Option Data) (others : Members)
      → IfSome value (NestsWithin most) → MembersNestWithin most others
      → MembersNestWithin most (maybe_member name value others)
  maybe_nests name None others each nest = nest
  maybe_nests name (Some value) others each nest = (each, nest)

  pub some_nests : {A : Type 0} (value : A → Data) → ((a : A) → NestsWithin most (value a))
      → (option : Option A) → IfSome (option_map value option) (NestsWithin most)
  some_nests value each None = tt
  some_nests value each (Some a) = each a

-- ---- spots and shapes

pair_nests : (most : ℕ) → 1 ≤ most → (at : Coordinates) → NestsWithin most (coordinates_array at)
pair_nests most enough at = search (rules, arith)

spots_nest : (most : ℕ) → 2 ≤ most → (road : RoadMap) (earliest latest : Place)
    (middle : Option Place) → NestsWithin most (spots_object road earliest latest middle)
spots_nest most enough road earliest latest middle =
    let each = option_nests coordinates_array (most - 1) (pair_nests (most - 1) (omega arith)) in (
      omega arith,
      (
        each (spot_on road earliest),
        (
          each (spot_on road latest),
          (each (option_and_then (spot_on road) middle), tt),
        ),
      ),
    )

shape_array_nests : (most : ℕ) → 2 ≤ most → (road : RoadMap) (pieces : List Piece)
    → NestsWithin most (shape_array road pieces)
shape_array_nests most enough road pieces = (
  omega arith,
  items_nest coordinates_array (most - 1) (pair_nests (most - 1) (omega arith))
      (shape_on road pieces),
)

part_shape_nests : (most : ℕ) → 2 ≤ most → (road : RoadMap) (part : Option (List Piece))
    → NestsWithin most (part_shape road part)
part_shape_nests most enough road part =
    option_nests (shape_array road) most (shape_array_nests most enough road) part

shape_nests : (most : ℕ) → 3 ≤ most → (road : RoadMap)
    (route : List Piece) (located : LocatedValue)
    → NestsWithin most (shape_object road route located)
shape_nests most enough road route (LocatedLine outer inner) = (
  omega arith,
  (
    part_shape_nests (most - 1) (omega arith) road inner,
    (
      part_shape_nests (most - 1) (omega arith) road outer,
      (shape_array_nests (most - 1) (omega arith) road route, tt),
    ),
  ),
)
shape_nests most enough road route (LocatedPoint earliest latest) = (
  omega arith,
  (shape_array_nests (most - 1) (omega arith) road route, tt),
)

spot_case : (most : ℕ) → 1 ≤ most → (shapes : Option Reference) (spot : Option Coordinates)
    → IfSome (option_and_then (λ (reference : Reference). option_map coordinates_array spot) shapes)
    (NestsWithin most)
spot_case most enough None spot = tt
spot_case most enough (Some reference) spot =
    some_nests most coordinates_array (pair_nests most enough) spot

pub spot_nests : (most : ℕ) → 1 ≤ most → (on : MapShown) (place : Place)
    → IfSome (spot_if_asked on place) (NestsWithin most)
spot_nests most enough on place = spot_case most enough on.shapes_of (spot_on on.road place)

pub shape_if_nests : (most : ℕ) → 3 ≤ most → (on : MapShown) (route : List Piece)
    (located : LocatedValue) → IfSome (shape_if_asked on route located) (NestsWithin most)
shape_if_nests most enough on route located = some_nests most
    (λ (reference : Reference). shape_object on.road route located)
    (λ reference. shape_nests most enough on.road route located) on.shapes_of

spots_case : (most : ℕ) → 2 ≤ most → (shapes : Option Reference) (road : RoadMap) (length : ℕ)
    (route : List Piece) (located : LocatedValue)
    → IfSome (option_and_then (λ (reference : Reference). spots_of road reference length route located)
    shapes) (NestsWithin most)
spots_case most enough None road length route located = tt
spots_case most enough (Some reference) road length route (LocatedLine outer inner) = tt
spots_case most enough (Some reference) road length route (LocatedPoint earliest latest) =
    spots_nest most enough road earliest latest _

pub spots_if_nest : (most : ℕ) → 2 ≤ most → (on : MapShown) (length : ℕ) (route : List Piece)
    (located : LocatedValue) → IfSome (spots_if_asked on length route located) (NestsWithin most)
spots_if_nest most enough on length route located =
    spots_case most enough on.shapes_of on.road length route located

pub part_nests : (most : ℕ) (part : Option RoutePart)
    → IfSome (part_drawn part) (NestsWithin most)
part_nests most None = tt
part_nests most (Some part) = tt

-- ---- a matching

candidate_nests : (most : ℕ) → 2 ≤ most → (on : MapShown) (candidate : Candidate)
    → NestsWithin most (candidate_object on candidate)
candidate_nests most enough on candidate = (
  omega arith,
  (
    tt,
    (
      tt,
      (
        tt,
        maybe_nests (most - 1) _ _ _ (spot_nests (most - 1) (omega arith) on candidate.place) tt,
      ),
    ),
  ),
)

leg_nests : (most : ℕ) → 1 ≤ most → (leg : Leg) → NestsWithin most (leg_object leg)
leg_nests most enough leg = (omega arith, (tt, (tt, tt)))

pub pieces_nest : (most : ℕ) → 2 ≤ most → (road : RoadMap) (pieces : List Piece)
    → NestsWithin most (pieces_array road pieces)
pieces_nest most enough road pieces = (
  omega arith,
  items_nest (piece_array road) (most - 1) (λ piece. (omega arith, (tt, (tt, (tt, tt))))) pieces,
)

pub part_value_nests : (most : ℕ) → 2 ≤ most → (road : RoadMap) (part : Option (List Piece))
    → NestsWithin most (part_value road part)
part_value_nests most enough road part =
    option_nests (pieces_array road) most (pieces_nest most enough road) part

pub place_nests : (most : ℕ) → 1 ≤ most → (road : RoadMap) (place : Place)
    → NestsWithin most (place_array road place)
place_nests most enough road place = (omega arith, (tt, (tt, tt)))

abbrev legs_array : List Leg → Data
legs_array legs = array_of leg_object legs

-- the members behind those of the location
abbrev behind_location : MapShown → Option RoutePart → KeyValue → Matched → List Piece
    → LocatedValue → Members
behind_location on part key matched route located =
    maybe_member (codes "part") (part_drawn part) (
    member (codes "points") (array_of (candidate_object on) matched.candidates) (
    member (codes "route") (pieces_array on.road route) (
    maybe_member (codes "shape") (shape_if_asked on route located) (
    maybe_member (codes "spot")
    (spots_if_asked on (first_length matched.legs) route located) (
    member (codes "total") (whole key.total) no_members)))))

module _ (on : MapShown) (most : ℕ) (enough : 4 ≤ most) where
  others_nest : (part : Option RoutePart) (key : KeyValue) (matched : Matched)
      (route : List Piece) (located : LocatedValue)
      → MembersNestWithin (most - 1) (behind_location on part key matched route located)
  others_nest part key matched route located = maybe_nests (most - 1) _ _ _
      (part_nests (most - 1) part) (
        (
          omega arith,
          items_nest (candidate_object on) (most - 1 - 1)
              (candidate_nests (most - 1 - 1) (omega arith) on) matched.candidates,
        ),
        (
          pieces_nest (most - 1) (omega arith) on.road route,
          maybe_nests (most - 1) _ _ _
              (shape_if_nests (most - 1) (omega arith) on route located)
              (maybe_nests (most - 1) _ _ _
              (spots_if_nest (most - 1) (omega arith) on _ route located) (tt, tt)),
        ),
      )

  legs_nest : (legs : List Leg) → NestsWithin (most - 1) (legs_array legs)
  legs_nest legs =
      (omega arith, items_nest leg_object (most - 1 - 1) (leg_nests (most - 1 - 1) (omega arith)) legs)

  matching_nests : (part : Option RoutePart) (key : KeyValue) (matched : Matched)
      (route : List Piece) (located : LocatedValue)
      → NestsWithin most (matching_object on part key matched route located)
  matching_nests part key matched route (LocatedLine outer inner) = (
    omega arith,
    (
      tt,
      (
        part_value_nests (most - 1) (omega arith) on.road inner,
        (
          legs_nest matched.legs,
          (
            part_value_nests (most - 1) (omega arith) on.road outer,
            others_nest part key matched route (LocatedLine outer inner),
          ),
        ),
      ),
    ),
  )
  matching_nests part key matched route (LocatedPoint earliest latest) = (
    omega arith,
    (
      tt,
      (
        place_nests (most - 1) (omega arith) on.road earliest,
        (
          place_nests (most - 1) (omega arith) on.road latest,
          (
            legs_nest matched.legs,
            others_nest part key matched route (LocatedPoint earliest latest),
          ),
        ),
      ),
    ),
  )

  pub drawn_nests : (part : Option RoutePart) (entry : Entry)
      → NestsWithin most (drawn_object on part entry)
  drawn_nests part entry = matching_nests part entry.key entry.matched entry.route entry.located

  pub entry_nests : (entry : Entry) → NestsWithin most (entry_object on entry)
  entry_nests entry = drawn_nests None entry
