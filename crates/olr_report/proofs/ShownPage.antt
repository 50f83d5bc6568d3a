-- The values that are written of a matching and of a page are their objects.
use Rattle.arrayvec.specs.ArrayString.{ArrayString}
use Rattle.olr_keys.specs.Cursor.{cursor_text}
use Rattle.olr_report.proofs.Common.{entry_of, first_length, maybe_member, part_drawn, shape_if_asked, spots_if_asked, KeyValue, Leg, Located, MapShown, Mark, Matched, Piece, RoadMap, ◌≡◌, ℕ, Bor, List, map, Option, None, Some, option_map, codes, refl, ap, ◌∙◌, Vec, Data, Members, member, no_members, object, string, array_of, or_null, whole, candidate_object, entry_object, leg_object, located_members, matching_object, next_value, page_object, part_value, pieces_array, located_value, pieces_if_any}
use Rattle.olr_report.proofs.ShapeValues.{mapped}
use Rattle.olr_report.specs.declared.locating.Located.TheVariants.{Line, Point}
use Rattle.olr_report.specs.declared.page_entries.Entry.{Entry}
use Rattle.olr_report.specs.declared.route_part.RoutePart.{RoutePart}

-- what is written of a part that may be there
abbrev written_part : RoadMap → Option (Vec Piece) → Data
written_part road part = or_null (λ (part : Vec Piece). pieces_array road part.items) part

same_part : (road : RoadMap) (part : Option (Vec Piece))
    → written_part road part ≡ part_value road (pieces_if_any part)
same_part road None = refl
same_part road (Some part) = refl

-- what is written of a location, with the legs among it
abbrev written_members : RoadMap → Located → List Leg → Members → Members
written_members road (Line outer inner) legs others =
    member (codes "inner") (written_part road inner) (
    member (codes "legs") (array_of leg_object legs) (
    member (codes "outer") (written_part road outer) others))
written_members road (Point earliest latest) legs others =
    located_members road (located_value (Point earliest latest)) legs others

same_members : (road : RoadMap) (located : Located) (legs : List Leg) (others : Members)
    → written_members road located legs others
    ≡ located_members road (located_value located) legs others
same_members road (Line outer inner) legs others =
    rw (same_part road outer, same_part road inner) refl
same_members road (Point earliest latest) legs others = refl

-- the object that is written of a matching is that of its key and its parts
pub same_matching : (on : MapShown) (part : Option RoutePart) (route : List Piece) (text : List ℕ)
    (word shape spot : Option Data) (length : ℕ) (written key : KeyValue) (parts matched : Matched)
    (found located : Located) → text ≡ cursor_text key None → word ≡ part_drawn part
    → length ≡ first_length parts.legs
    → shape ≡ shape_if_asked on route (located_value located)
    → spot ≡ spots_if_asked on length route (located_value located)
    → written ≡ key → parts ≡ matched → located ≡ found
    → object (
    member (codes "cursor") (string text) (
    written_members on.road found parts.legs (
    maybe_member (codes "part") word (
    member (codes "points") (array_of (candidate_object on) parts.candidates) (
    member (codes "route") (pieces_array on.road route) (
    maybe_member (codes "shape") shape (
    maybe_member (codes "spot") spot (
    member (codes "total") (whole written.total) no_members))))))))
    ≡ matching_object on part key matched route (located_value located)
same_matching on part route text word shape spot length written key parts matched found located
    text_is word_is length_is shape_is spot_is key_is parts_are is =
    rw (text_is, word_is, shape_is, spot_is, length_is, key_is, parts_are, is) (ap (λ members.
    object (member (codes "cursor") (string (cursor_text key None)) members))
    (same_members on.road found matched.legs _))

-- the value of a text that may be there is that of the cursor, where the texts are the same
pub same_next : (next : Option ArrayString) (found : Option (Bor KeyValue))
    (last : Option KeyValue) (mark : Option Mark) → option_map (λ text. text.bytes) next
    ≡ option_map (λ (key : Bor KeyValue). cursor_text key.now mark) found
    → option_map (λ (key : Bor KeyValue). key.now) found ≡ last
    → or_null (λ text. string text.bytes) next ≡ next_value last mark
same_next None None last mark same is = cc
same_next (Some next) (Some key) last mark same is =
    let text : next.bytes ≡ cursor_text key.now mark = cc in
    ap string text ∙ ap (λ l. next_value l mark) is
same_next _ _ last mark same is = absurd cc

module _ (on : MapShown) (list : List Entry) (next : Option ArrayString)
    (found : Option (Bor KeyValue)) (last : Option KeyValue)
    (mark : Option Mark) (same : option_map (λ text. text.bytes) next
    ≡ option_map (λ (key : Bor KeyValue). cursor_text key.now mark) found)
    (is : option_map (λ (key : Bor KeyValue). key.now) found ≡ last) where
  pub same_page : object (
      member (codes "matchings") (array_of (λ entry. entry_object on (entry_of entry)) list) (
      member (codes "next") (or_null (λ text. string text.bytes) next) no_members))
      ≡ page_object on (map entry_of list) last mark
  same_page = cc (mapped (entry_object on) entry_of list, same_next next found last mark same is)
