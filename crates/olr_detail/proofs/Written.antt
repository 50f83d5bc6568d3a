-- The values that are written of a matching and of candidates are their objects.
use Rattle.std.proofs.Common.{◌≡◌, ◌+◌, ◌-◌, ◌++◌, ◌≤◌, ℕ, List, [], ◌∷◌, Option, None, Some, refl, ap, arith}
use Rattle.std.specs.Global.{Vec}
use Rattle.std.specs.Prelude.{codes}
use Rattle.serde_json.specs.Data.{Data, Members, boolean, member, no_members, object, string}
use Rattle.olr_text.proofs.Nesting.{items_nest}
use Rattle.olr_text.specs.JsonValues.{MembersNestWithin, NestsWithin, array_of, maybe_member, or_null, whole}
use Rattle.olr_text.specs.Texts.{texts_from}
use Rattle.olr_keys.specs.Cursor.{cursor_text}
use Rattle.olr_keys.specs.Key.{KeyValue}
use Rattle.olr_matching.specs.declared.matched.Matched.{Matched}
use Rattle.olr_road.specs.RoadMap.{RoadMap}
use Rattle.olr_route.specs.declared.piece.Piece.{Piece}
use Rattle.olr_report.proofs.JsonShape.{maybe_nests, part_nests, part_value_nests, pieces_nest, place_nests, shape_if_nests, spot_nests, spots_if_nest}
use Rattle.olr_report.proofs.ShapeValues.{mapped}
use Rattle.olr_report.specs.Json.{part_value, pieces_array}
use Rattle.olr_report.specs.Location.{LocatedLine, LocatedPoint, LocatedValue, first_length, located_value, pieces_if_any}
use Rattle.olr_report.specs.RoutePart.{part_drawn}
use Rattle.olr_report.specs.Shapes.{shape_if_asked, spots_if_asked}
use Rattle.olr_report.specs.ShownMap.{MapShown}
use Rattle.olr_report.specs.declared.locating.Located.{Located}
use Rattle.olr_report.specs.declared.locating.Located.TheVariants.{Line, Point}
use Rattle.olr_report.specs.declared.route_part.RoutePart.{RoutePart}
use Rattle.olr_detail.specs.Json.{candidate_object, leg_object, listing_object, located_members, matching_object, parts_object}
use Rattle.olr_detail.specs.Listing.{details_of}
use Rattle.olr_detail.specs.Text.{point_listing}
use Rattle.olr_detail.specs.Values.{MatchingDetailValue}
use Rattle.olr_detail.specs.declared.candidate_detail.CandidateDetail.{CandidateDetail}
use Rattle.olr_detail.specs.declared.candidate_detail.PenaltyParts.{PenaltyParts}
use Rattle.olr_detail.specs.declared.leg_detail.LegDetail.{LegDetail}
use Rattle.olr_detail.specs.declared.listing.PointDetails.{PointDetails}

-- ---- a matching

-- what is written of a part that may be there
abbrev written_part : RoadMap → Option (Vec Piece) → Data
written_part road part = or_null (λ (part : Vec Piece). pieces_array road part.items) part

same_part : (road : RoadMap) (part : Option (Vec Piece))
    → written_part road part ≡ part_value road (pieces_if_any part)
same_part road None = refl
same_part road (Some part) = refl

-- what is written of a location, with the legs among it
abbrev written_members : RoadMap → Located → List LegDetail → Members → Members
written_members road (Line outer inner) legs others =
    member (codes "inner") (written_part road inner) (
    member (codes "legs") (array_of leg_object legs) (
    member (codes "outer") (written_part road outer) others))
written_members road (Point earliest latest) legs others =
    located_members road (located_value (Point earliest latest)) legs others

same_members : (road : RoadMap) (located : Located) (legs : List LegDetail) (others : Members)
    → written_members road located legs others
    ≡ located_members road (located_value located) legs others
same_members road (Line outer inner) legs others =
    rw (same_part road outer, same_part road inner) refl
same_members road (Point earliest latest) legs others = refl

-- the object that is written of a matching is that of its key, its parts, its route, its location and
-- what speaks for it
pub same_matching : (on : MapShown) (part : Option RoutePart) (matched : Matched)
    (route : List Piece) (text : List ℕ) (word shape spot : Option Data) (length : ℕ)
    (written key : KeyValue) (parts : Matched) (shown detail : MatchingDetailValue)
    (found located : Located)
    → text ≡ cursor_text key None → word ≡ part_drawn part → length ≡ first_length parts.legs
    → shape ≡ shape_if_asked on route (located_value located)
    → spot ≡ spots_if_asked on length route (located_value located) → written ≡ key
    → parts ≡ matched → shown ≡ detail → located ≡ found
    → object (
    member (codes "cost") (whole shown.likely.cost) (
    member (codes "cursor") (string text) (
    written_members on.road found shown.legs (
    maybe_member (codes "part") word (
    member (codes "points") (array_of (candidate_object on) shown.points) (
    member (codes "route") (pieces_array on.road route) (
    maybe_member (codes "shape") shape (
    maybe_member (codes "spot") spot (
    member (codes "total") (whole written.total) (
    member (codes "turns_back") (boolean shown.likely.turns_back) no_members))))))))))
    ≡ matching_object on part key matched route (located_value located) detail
same_matching on part matched route text word shape spot length written key parts shown detail
    found located text_is word_is length_is shape_is spot_is key_is parts_are shown_is is =
    rw (text_is, word_is, shape_is, spot_is, length_is, key_is, parts_are, shown_is, is) (ap (λ members.
    object (member (codes "cost") (whole detail.likely.cost)
    (member (codes "cursor") (string (cursor_text key None)) members)))
    (same_members on.road found detail.legs _))

-- ---- how deep it nests

parts_nest : (most : ℕ) → 1 ≤ most → (parts : PenaltyParts) → NestsWithin most (parts_object parts)
parts_nest most enough parts = (omega arith, (tt, (tt, (tt, (tt, tt)))))

candidate_nests : (most : ℕ) → 2 ≤ most → (on : MapShown) (detail : CandidateDetail)
    → NestsWithin most (candidate_object on detail)
candidate_nests most enough on detail = (
  omega arith,
  (
    tt,
    (
      tt,
      (
        tt,
        (
          tt,
          (
            tt,
            (
              tt,
              (
                parts_nest (most - 1) (omega arith) detail.parts,
                (
                  tt,
                  (
                    tt,
                    maybe_nests (most - 1) _ _ _
                        (spot_nests (most - 1) (omega arith) on detail.candidate.place) tt,
                  ),
                ),
              ),
            ),
          ),
        ),
      ),
    ),
  ),
)

leg_nests : (most : ℕ) → 1 ≤ most → (detail : LegDetail) → NestsWithin most (leg_object detail)
leg_nests most enough detail = (omega arith, (tt, (tt, (tt, (tt, (tt, tt))))))

legs_nest : (most : ℕ) → 2 ≤ most → (legs : List LegDetail)
    → NestsWithin most (array_of leg_object legs)
legs_nest most enough legs =
    (omega arith, items_nest leg_object (most - 1) (leg_nests (most - 1) (omega arith)) legs)

-- the members behind those of the location
abbrev behind_location : MapShown → Option RoutePart → KeyValue → Matched → List Piece
    → LocatedValue → MatchingDetailValue → Members
behind_location on part key matched route located detail =
    maybe_member (codes "part") (part_drawn part) (
    member (codes "points") (array_of (candidate_object on) detail.points) (
    member (codes "route") (pieces_array on.road route) (
    maybe_member (codes "shape") (shape_if_asked on route located) (
    maybe_member (codes "spot")
    (spots_if_asked on (first_length matched.legs) route located) (
    member (codes "total") (whole key.total) (
    member (codes "turns_back") (boolean detail.likely.turns_back) no_members))))))

module _ (on : MapShown) (most : ℕ) (enough : 4 ≤ most) where
  others_nest : (part : Option RoutePart) (key : KeyValue) (matched : Matched)
      (route : List Piece) (located : LocatedValue) (detail : MatchingDetailValue)
      → MembersNestWithin (most - 1) (behind_location on part key matched route located detail)
  others_nest part key matched route located detail = maybe_nests (most - 1) _ _ _
      (part_nests (most - 1) part) (
        (
          omega arith,
          items_nest (candidate_object on) (most - 1 - 1)
              (candidate_nests (most - 1 - 1) (omega arith) on) detail.points,
        ),
        (
          pieces_nest (most - 1) (omega arith) on.road route,
          maybe_nests (most - 1) _ _ _
              (shape_if_nests (most - 1) (omega arith) on route located)
              (maybe_nests (most - 1) _ _ _
              (spots_if_nest (most - 1) (omega arith) on _ route located) (tt, (tt, tt))),
        ),
      )

  pub matching_nests : (part : Option RoutePart) (key : KeyValue) (matched : Matched)
      (route : List Piece) (located : LocatedValue) (detail : MatchingDetailValue)
      → NestsWithin most (matching_object on part key matched route located detail)
  matching_nests part key matched route (LocatedLine outer inner) detail = (
    omega arith,
    (
      tt,
      (
        tt,
        (
          part_value_nests (most - 1) (omega arith) on.road inner,
          (
            legs_nest (most - 1) (omega arith) detail.legs,
            (
              part_value_nests (most - 1) (omega arith) on.road outer,
              others_nest part key matched route (LocatedLine outer inner) detail,
            ),
          ),
        ),
      ),
    ),
  )
  matching_nests part key matched route (LocatedPoint earliest latest) detail = (
    omega arith,
    (
      tt,
      (
        tt,
        (
          place_nests (most - 1) (omega arith) on.road earliest,
          (
            place_nests (most - 1) (omega arith) on.road latest,
            (
              legs_nest (most - 1) (omega arith) detail.legs,
              others_nest part key matched route (LocatedPoint earliest latest) detail,
            ),
          ),
        ),
      ),
    ),
  )

-- ---- the candidates of points

pub candidates_nest : (most : ℕ) → 3 ≤ most → (on : MapShown) (details : List CandidateDetail)
    → NestsWithin most (array_of (candidate_object on) details)
candidates_nest most enough on details = (
  omega arith,
  items_nest (candidate_object on) (most - 1)
      (candidate_nests (most - 1) (omega arith) on) details,
)

pub same_listing : (on : MapShown) (points : List PointDetails)
    → object (member (codes "points") (array_of
    (λ (point : PointDetails). array_of (candidate_object on) point.candidates.items) points)
    no_members) ≡ listing_object on (details_of points)
same_listing on points = rw (mapped (array_of (candidate_object on))
    (λ (point : PointDetails). point.candidates.items) points) refl

pub same_rows : (road : RoadMap) (number : ℕ) (points : List PointDetails)
    → texts_from (λ n (point : PointDetails). point_listing road n point.candidates.items) number
    points ≡ texts_from (point_listing road) number (details_of points)
same_rows road number [] = refl
same_rows road number (point ∷ points) =
    ap (λ rest. point_listing road number point.candidates.items ++ rest)
    (same_rows road (number + 1) points)
