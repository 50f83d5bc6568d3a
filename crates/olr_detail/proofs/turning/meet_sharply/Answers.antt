use Rattle.std.proofs.Common.{◌≡◌, ◌-◌, ℕ, List, Some, length, map, refl, subst, ap, ◌∙◌, arith, slice_get, option_map}
use Rattle.std.proofs.lemmas.Option.{slice_get-map, slice_get_read}
use Rattle.std.proofs.lemmas.List.{length-map}
use Rattle.std.specs.Prelude.{Bool, Decides, true, slice_index_or, ◌<◌}
use Rattle.olr_base.specs.Coordinates.{Coordinates, coordinates_of}
use Rattle.olr_base.specs.declared.degrees.Degrees.{Degrees}
use Rattle.olr_metric.specs.Plane.{spot_of}
use Rattle.olr_metric.specs.declared.spot.Spot.{Spot}
use Rattle.olr_detail.specs.Turning.{IsSharp, MeetSharply}
use Rattle.olr_detail.proofs.turning.meet_sharply.Goals as goal

-- the coordinates of a point of a list
coordinates_at : (points : List Degrees) (index : ℕ) (point : Degrees) → index < length points
    → point ≡ slice_index_or points index point
    → slice_get (map coordinates_of points) index ≡ Some (coordinates_of point)
coordinates_at points index point inside is =
    slice_get-map coordinates_of points index
    ∙ ap (option_map coordinates_of) (slice_get_read points _ index point refl inside is)

same : {A : Type 0} (points : List A) (index : ℕ) (a b : A) → slice_get points index ≡ Some a
    → slice_get points index ≡ Some b → a ≡ b
same points index a b is other = cc

module _ (points others : List Coordinates) (before node after : Coordinates)
    (before_is : slice_get points (length points - 2) ≡ Some before)
    (node_is : slice_get points (length points - 1) ≡ Some node)
    (after_is : slice_get others 1 ≡ Some after) (found : Bool)
    (decides : Decides found (IsSharp (spot_of node before) (spot_of node after))) where
  meets : found ≡ true → MeetSharply points others
  meets is = record {
    before = before;
    node = node;
    after = after;
    before_is = before_is;
    node_is = node_is;
    after_is = after_is;
    sharp = decides.0 is;
  }

  found_where : MeetSharply points others → found ≡ true
  found_where meet = decides.1 (rw (
    same points _ before meet.before before_is meet.before_is,
    same points _ node meet.node node_is meet.node_is,
    same others 1 after meet.after after_is meet.after_is,
  ) meet.sharp)

-- the test is that of the spots in the plane of the node
decided : (node before after plane : Degrees) (a b : Spot) (found : Bool) → plane ≡ node
    → a ≡ spot_of (coordinates_of plane) (coordinates_of before)
    → b ≡ spot_of (coordinates_of plane) (coordinates_of after) → Decides found (IsSharp a b)
    → Decides found (IsSharp (spot_of (coordinates_of node) (coordinates_of before))
    (spot_of (coordinates_of node) (coordinates_of after)))
decided node before after plane a b found plane_is a_is b_is decides =
    subst (λ (origin : Degrees). Decides found (IsSharp
    (spot_of (coordinates_of origin) (coordinates_of before))
    (spot_of (coordinates_of origin) (coordinates_of after)))) plane_is
    (subst (λ (x : Spot). Decides found (IsSharp x
    (spot_of (coordinates_of plane) (coordinates_of after)))) a_is
    (subst (λ (y : Spot). Decides found (IsSharp a y)) b_is decides))

pub returns : goal.returns
returns c =
    let points = c.args.points.now in
    let others = c.args.others.now in
    let shown = map coordinates_of points in
    let count : length shown ≡ length points = length-map points coordinates_of in
    let before : slice_get shown (length shown - 2)
    ≡ Some (coordinates_of c.index-points-count-2.result) =
    rw count (coordinates_at points (length points - 2) c.index-points-count-2.result
    (omega (arith, c.requires.points)) c.index-points-count-2.is) in
    let node : slice_get shown (length shown - 1)
    ≡ Some (coordinates_of c.index-points-count.result) =
    rw count (coordinates_at points (length points - 1) c.index-points-count.result
    (omega (arith, c.requires.points)) c.index-points-count.is) in
    let after = coordinates_at others 1 c.index-others-1.result
    (omega (arith, c.requires.others)) c.index-others-1.is in
    let decides = decided c.index-points-count.result c.index-points-count-2.result
    c.index-others-1.result c.at-plane.result c.to_plane.result c.to_plane-2.result
    c.is_sharp.result c.at-plane.ensures c.to_plane.ensures.spot c.to_plane-2.ensures.spot
    c.is_sharp.ensures in (
      meets shown _ _ _ _ before node after c.is_sharp.result decides,
      found_where shown _ _ _ _ before node after c.is_sharp.result decides,
    )
