-- Texts of features.
use Rattle.std.proofs.Common.{◌≡◌, ◌≢◌, ◌+◌, ℕ, ◌∙◌, List, [], ◌∷◌, ◌++◌, Option, map, refl, sym, ap}
use Rattle.std.proofs.lemmas.List.{append_assoc}
use Rattle.std.specs.Prelude.{codes}
use Rattle.serde_json.specs.Data.{Data, Members, member, no_members, object}
use Rattle.olr_geojson.specs.Feature.{Feature, feature_text}
use Rattle.olr_geojson.specs.Joined.{behind_commas}
use Rattle.olr_binary.specs.declared.reference.Reference.{Reference}
use Rattle.olr_report.specs.Entries.{Entry}
use Rattle.olr_report.specs.Json.{matching_object as plain_object}
use Rattle.olr_report.specs.Location.{first_length}
use Rattle.olr_report.specs.ShownMap.{MapShown}
use Rattle.olr_report.specs.declared.route_part.RoutePart.{RoutePart}
use Rattle.olr_route.specs.declared.piece.Piece.{Piece}
use Rattle.olr_report.specs.Shapes.{spot_if_asked}
use Rattle.olr_route.specs.Route.{id_at}
use Rattle.olr_text.specs.JsonValues.{maybe_member, whole}
use Rattle.olr_text.specs.Texts.{texts_from, unnumbered}
use Rattle.olr_detail.specs.Drawing.{geometry_drawn, part_named}
use Rattle.olr_detail.specs.GeoJson.{detail_properties, detailed_feature, entry_feature, listing_features, ranked_features}
use Rattle.olr_detail.specs.Json.{matching_object, parts_object}
use Rattle.olr_detail.specs.MatchingDetail.{Detailed}
use Rattle.olr_detail.specs.declared.candidate_detail.CandidateDetail.{CandidateDetail}

-- an object with a member isn't empty
pub not_empty : (name : List ℕ) (value : Data) (others : Members)
    → member name value others ≢ no_members
not_empty name value others same = absurd cc

-- the features of items, each of which is written behind a comma
pub behind_each : {A B : Type 0} (value : A → B) (feature : B → Feature) (number : ℕ)
    (items : List A)
    → texts_from (unnumbered (λ a. codes "," ++ feature_text (feature (value a)))) number items
    ≡ behind_commas feature_text (map feature (map value items))
behind_each value feature number [] = refl
behind_each value feature number (a ∷ items) =
    ap (λ rest. codes "," ++ feature_text (feature (value a)) ++ rest)
    (behind_each value feature (number + 1) items)

-- ---- the candidates of points

behind-append : (xs ys : List Feature) → behind_commas feature_text (xs ++ ys)
    ≡ behind_commas feature_text xs ++ behind_commas feature_text ys
behind-append [] ys = refl
behind-append (x ∷ xs) ys = ap (λ rest. codes "," ++ feature_text x ++ rest) (behind-append xs ys)
    ∙ sym (append_assoc (codes "," ++ feature_text x) (behind_commas feature_text xs)
    (behind_commas feature_text ys))

module _ {A : Type 0} (feature : ℕ → ℕ → A → Feature) where
  -- the features of the candidates of a point, as they are written
  abbrev pub point_text : ℕ → ℕ → List A → List ℕ
  point_text number rank list =
      texts_from (λ rank a. codes "," ++ feature_text (feature number rank a)) rank list

  point_is : (number rank : ℕ) (list : List A) → point_text number rank list
      ≡ behind_commas feature_text (ranked_features feature number rank list)
  point_is number rank [] = refl
  point_is number rank (a ∷ list) =
      ap (λ rest. codes "," ++ feature_text (feature number rank a) ++ rest)
      (point_is number (rank + 1) list)

  pub points_are : {B : Type 0} (items : B → List A) (number : ℕ) (lists : List B)
      → texts_from (λ number b. point_text number 1 (items b)) number lists
      ≡ behind_commas feature_text (listing_features feature number (map items lists))
  points_are items number [] = refl
  points_are items number (b ∷ lists) =
      ap (λ first. first ++ texts_from (λ number b. point_text number 1 (items b)) (number + 1) lists)
      (point_is number 1 (items b))
      ∙ ap (λ rest. behind_commas feature_text (ranked_features feature number 1 (items b)) ++ rest)
      (points_are items (number + 1) lists)
      ∙ sym (behind-append (ranked_features feature number 1 (items b))
      (listing_features feature (number + 1) (map items lists)))

-- the properties that are written of a candidate with what speaks for it
pub properties_are : (on : MapShown) (number rank : ℕ) (detail : CandidateDetail) (id : ℕ)
    (spot : Option Data) → id ≡ id_at on.road detail.candidate.place.line
    → spot ≡ spot_if_asked on detail.candidate.place → object (
    member (codes "at") (whole detail.candidate.place.at) (
    member (codes "classes") (whole detail.classes) (
    member (codes "distance") (whole detail.distance) (
    member (codes "end") (whole detail.end) (
    member (codes "form") (whole detail.form) (
    member (codes "line") (whole id) (
    member (codes "parts") (parts_object detail.parts) (
    member (codes "penalty") (whole detail.candidate.penalty) (
    member (codes "point") (whole number) (
    member (codes "rank") (whole rank) (
    member (codes "sectors") (whole detail.sectors) (
    maybe_member (codes "spot") spot no_members))))))))))))
    ≡ detail_properties on number rank detail
properties_are on number rank detail id spot id_is spot_is = rw (id_is, spot_is) refl

-- ---- the feature that is written of a matching is that of its entry

module _ (on : MapShown) (reference : Reference) (part : RoutePart) (named : Option RoutePart)
    (length : ℕ) (route again : List Piece) (named_is : named ≡ part_named reference part) where
  pub entry_is : (entry : Entry) → length ≡ first_length entry.matched.legs → route ≡ entry.route
      → again ≡ entry.route
      → (λ (f : Feature). f) (record {
        geometry = geometry_drawn on.road reference part length route entry.located;
        properties = plain_object on named entry.key entry.matched again entry.located;
      }) ≡ entry_feature on reference part entry
  entry_is entry length_is route_is again_is = rw (named_is, length_is, route_is, again_is) refl

  pub detailed_is : (one : Detailed) → length ≡ first_length one.entry.matched.legs
      → route ≡ one.entry.route → again ≡ one.entry.route
      → (λ (f : Feature). f) (record {
        geometry = geometry_drawn on.road reference part length route one.entry.located;
        properties = matching_object on named one.entry.key one.entry.matched again
            one.entry.located one.detail;
      }) ≡ detailed_feature on reference part one
  detailed_is one length_is route_is again_is = rw (named_is, length_is, route_is, again_is) refl
