-- Matchings and candidates as features of GeoJSON.
use Rattle.std.specs.Prelude.{◌≡◌, ℕ, ◌+◌, List, [], ◌∷◌, ◌++◌, Option, codes, map}
use Rattle.serde_json.specs.Data.{Data, Members, object, string, no_members, member}
use Rattle.olr_candidates.specs.declared.candidate.Candidate.{Candidate}
use Rattle.olr_binary.specs.declared.reference.Reference.{Reference}
use Rattle.olr_candidates.specs.declared.tolerances.Tolerances.{Tolerances}
use Rattle.olr_geojson.specs.Feature.{Feature, feature_text}
use Rattle.olr_geojson.specs.Joined.{behind_commas}
use Rattle.olr_keys.specs.Key.{KeyValue}
use Rattle.olr_keys.specs.Page.{PageValue}
use Rattle.olr_keys.specs.declared.mark.Mark.{Mark}
use Rattle.olr_matching.specs.declared.matched.Matched.{Matched}
use Rattle.olr_report.specs.Entries.{AreEntriesOf, Entry}
use Rattle.olr_report.specs.Json.{drawn_object as plain_object, next_value}
use Rattle.olr_report.specs.Location.{first_length}
use Rattle.olr_report.specs.Shapes.{spot_if_asked}
use Rattle.olr_report.specs.ShownMap.{MapShown}
use Rattle.olr_report.specs.declared.route_part.RoutePart.{RoutePart}
use Rattle.olr_route.specs.Route.{id_at}
use Rattle.olr_shape.specs.Position.{spot_on}
use Rattle.olr_text.specs.JsonValues.{maybe_member, whole}
use Rattle.olr_detail.specs.Drawing.{geometry_drawn, part_named, spot_drawn}
use Rattle.olr_detail.specs.Json.{drawn_object, parts_object}
use Rattle.olr_detail.specs.MatchingDetail.{Detailed}
use Rattle.olr_detail.specs.Page.{AreDetailed}
use Rattle.olr_detail.specs.declared.candidate_detail.CandidateDetail.{CandidateDetail}

-- the member that names what it is, in front of others
abbrev pub typed : Members → Members
typed others = member (codes "type") (string (codes "FeatureCollection")) others

-- ---- matchings

module _ (on : MapShown) (reference : Reference) (part : RoutePart) where
  -- a matching, drawn by this part of its route
  abbrev pub entry_feature : Entry → Feature
  entry_feature entry = record {
    geometry = geometry_drawn on.road reference part (first_length entry.matched.legs) entry.route
        entry.located;
    properties = plain_object on (part_named reference part) entry;
  }

  -- the same with what speaks for it
  abbrev pub detailed_feature : Detailed → Feature
  detailed_feature one = record {
    geometry = geometry_drawn on.road reference part (first_length one.entry.matched.legs)
        one.entry.route one.entry.located;
    properties = drawn_object on (part_named reference part) one;
  }

  -- the features of the matchings of a page, whose keys have these parts, are added to a text
  pub record AddsEntries (page : PageValue) (matched : List Matched) (old new : List ℕ)
      : Type 0 where
    pub entries : List Entry
    pub are : AreEntriesOf reference page.keys matched entries
    pub text_is : new ≡ old ++ behind_commas feature_text (map entry_feature entries)

  -- the same with what speaks for each
  pub record AddsDetailed (tolerances : Tolerances) (page : PageValue) (matched : List Matched)
      (old new : List ℕ) : Type 0 where
    pub all : List Detailed
    pub are : AreDetailed tolerances reference on.road page matched all
    pub text_is : new ≡ old ++ behind_commas feature_text (map detailed_feature all)

-- the members of a page behind its features: where the next page begins, and the type
abbrev pub page_members : Option KeyValue → Option Mark → Members
page_members next mark = member (codes "next") (next_value next mark) (typed no_members)

-- ---- candidates

module _ (on : MapShown) (number rank : ℕ) where
  -- the properties of the candidate of this rank of the point of this number, both counted from 1
  abbrev pub candidate_properties : Candidate → Data
  candidate_properties candidate = object (
      member (codes "at") (whole candidate.place.at) (
      member (codes "line") (whole (id_at on.road candidate.place.line)) (
      member (codes "penalty") (whole candidate.penalty) (
      member (codes "point") (whole number) (
      member (codes "rank") (whole rank) (
      maybe_member (codes "spot") (spot_if_asked on candidate.place) no_members))))))

  -- the same with what speaks for it
  abbrev pub detail_properties : CandidateDetail → Data
  detail_properties detail = object (
      member (codes "at") (whole detail.candidate.place.at) (
      member (codes "classes") (whole detail.classes) (
      member (codes "distance") (whole detail.distance) (
      member (codes "end") (whole detail.end) (
      member (codes "form") (whole detail.form) (
      member (codes "line") (whole (id_at on.road detail.candidate.place.line)) (
      member (codes "parts") (parts_object detail.parts) (
      member (codes "penalty") (whole detail.candidate.penalty) (
      member (codes "point") (whole number) (
      member (codes "rank") (whole rank) (
      member (codes "sectors") (whole detail.sectors) (
      maybe_member (codes "spot") (spot_if_asked on detail.candidate.place)
      no_members))))))))))))

  -- the candidate, at its spot
  abbrev pub candidate_feature : Candidate → Feature
  candidate_feature candidate = record {
    geometry = spot_drawn (spot_on on.road candidate.place);
    properties = candidate_properties candidate;
  }

  -- the same with what speaks for it
  abbrev pub candidate_in_detail : CandidateDetail → Feature
  candidate_in_detail detail = record {
    geometry = spot_drawn (spot_on on.road detail.candidate.place);
    properties = detail_properties detail;
  }

-- the features of the candidates of a point, the first of which has this rank
abbrev pub ranked_features : {A : Type 0} → (ℕ → ℕ → A → Feature) → ℕ → ℕ → List A → List Feature
ranked_features feature number rank [] = []
ranked_features feature number rank (a ∷ all) =
    feature number rank a ∷ ranked_features feature number (rank + 1) all

-- the features of the candidates of points, the first of which has this number
abbrev pub listing_features : {A : Type 0} → (ℕ → ℕ → A → Feature) → ℕ → List (List A)
    → List Feature
listing_features feature number [] = []
listing_features feature number (list ∷ lists) =
    ranked_features feature number 1 list ++ listing_features feature (number + 1) lists
